-- How beginnings grow by white space, by whole values and by structural characters.
use Rattle.std.proofs.Common.{◌≡◌, ℕ, suc, ◌+◌, ◌-◌, ◌<◌, true, List, [], ◌∷◌, ◌++◌, sym, refl, ap, ◌∙◌, subst, arith}
use Rattle.std.proofs.lemmas.List.{append-nil, append_assoc}
use Rattle.json_text.specs.Json.{is_ws, Ws, Structural, NameSeparator, object, array, no_members, members, no_values, values, is_empty_object, is_object, is_empty_array, is_array, one_value, next_value, one_member, next_member, member}
use Rattle.json_text.specs.Machine.{Stack, count, square, curly, outside}
use Rattle.json_text.specs.Reading.{AnyValue, AnyValues, AnyMember, AnyMembers}
use Rattle.json_text.proofs.Runs.{all_none}
use Rattle.json_text.proofs.Segments.{all_append}
use Rattle.json_text.proofs.Places.{AnyText}
use Rattle.json_text.proofs.Joining.{Joined, join, grow, made, Within, three_more, grow_within, weaken_within, made_within, ws_more, structural_more}
use Rattle.json_text.proofs.States.{AnyString, Wanted, Had, Opened, NameWanted}
use Rattle.json_text.specs.declared.texts.TheConstants.{DEPTH}
use Rattle.json_text.proofs.Items.{Started, at_first, behind_comma}

-- white space behind an opening bracket or behind a comma
begin_more : (O : List ℕ → Type 0) (n k : ℕ) (I : ℕ → List ℕ → Type 0) (t : List ℕ) (x : ℕ) (w : Within O n k I t) → is_ws x ≡ true → I w.depth [] → w.inner ≡ [] → Within O n k I (t ++ x ∷ [])
begin_more O n k I t x w h i e = record {
  depth = w.depth;
  room = w.room;
  outer = w.outer;
  begin = w.begin ++ x ∷ [];
  inner = [];
  is_outer = w.is_outer;
  is_begin = structural_more k w.begin x h w.is_begin;
  is_inner = i;
  split = ap (λ zs. zs ++ x ∷ []) (w.split ∙ ap (λ zs. w.outer ++ (w.begin ++ zs)) e ∙ ap (λ zs. w.outer ++ zs) (append-nil w.begin))
      ∙ append_assoc w.outer w.begin (x ∷ []) ∙ ap (λ zs. w.outer ++ zs) (sym (append-nil (w.begin ++ x ∷ [])));
}

pub started_ws : (O : List ℕ → Type 0) (n k : ℕ) (R : ℕ → List ℕ → Type 0) (t : List ℕ) (x : ℕ) → is_ws x ≡ true → Within O n k (λ d. Started (R d)) t → Within O n k (λ d. Started (R d)) (t ++ x ∷ [])
started_ws O n k R t x h w = go w.is_inner
  where
    go : Started (R w.depth) w.inner → Within O n k (λ d. Started (R d)) (t ++ x ∷ [])
    go (at_first e) = begin_more O n k (λ d. Started (R d)) t x w h (at_first refl) e
    go (behind_comma i c l s e) = record {
      depth = w.depth;
      room = w.room;
      outer = w.outer;
      begin = w.begin;
      inner = w.inner ++ x ∷ [];
      is_outer = w.is_outer;
      is_begin = w.is_begin;
      is_inner = behind_comma i (c ++ x ∷ []) l (structural_more 44 c x h s) (ap (λ zs. zs ++ x ∷ []) e ∙ append_assoc i c (x ∷ []));
      split = ap (λ zs. zs ++ x ∷ []) w.split ∙ three_more w.outer w.begin w.inner (x ∷ []);
    }

pub opened_ws : (k : ℕ) (σ : Stack) (t : List ℕ) (x : ℕ) → is_ws x ≡ true → Opened k σ t → Opened k σ (t ++ x ∷ [])
opened_ws k σ t x h w = begin_more (Wanted σ) (count σ) k (λ d a. a ≡ []) t x w h refl w.is_inner

pub wanted_ws : (σ : Stack) (t : List ℕ) (x : ℕ) → is_ws x ≡ true → Wanted σ t → Wanted σ (t ++ x ∷ [])
wanted_ws [] t x h w = ws_more t x h w
wanted_ws (square ∷ σ) t x h w = started_ws (Wanted σ) (count σ) 91 AnyValues t x h w
wanted_ws (curly ∷ σ) t x h w =
    grow_within (Wanted σ) (count σ) 123 (λ d. Joined (Started (AnyMembers d)) (Joined AnyString NameSeparator)) (λ d. Joined (Started (AnyMembers d)) (Joined AnyString NameSeparator)) t (x ∷ [])
    (λ d b _ j. grow (Started (AnyMembers d)) (Joined AnyString NameSeparator) (Joined AnyString NameSeparator) b (x ∷ [])
    (λ c n. grow AnyString NameSeparator NameSeparator c (x ∷ []) (λ z s. structural_more 58 z x h s) n) j) w
wanted_ws (outside ∷ σ) t x h w = w

pub name_wanted_ws : (σ : Stack) (t : List ℕ) (x : ℕ) → is_ws x ≡ true → NameWanted σ t → NameWanted σ (t ++ x ∷ [])
name_wanted_ws [] t x h w = w
name_wanted_ws (square ∷ σ) t x h w = w
name_wanted_ws (curly ∷ σ) t x h w = started_ws (Wanted σ) (count σ) 123 AnyMembers t x h w
name_wanted_ws (outside ∷ σ) t x h w = w

-- a value or a member behind others
more_values : (d : ℕ) (a b : List ℕ) → Started (AnyValues d) a → AnyValue d b → AnyValues d (a ++ b)
more_values d a b (at_first e) v = subst (AnyValues d) (ap (λ zs. zs ++ b) (sym e)) (no_values, v.0, one_value v.1)
more_values d a b (behind_comma i c l s e) v = (values l.0 l.1, v.0, next_value i c b l.2 s v.1 (ap (λ zs. zs ++ b) e ∙ append_assoc i c b))

more_members : (d : ℕ) (a b : List ℕ) → Started (AnyMembers d) a → AnyMember d b → AnyMembers d (a ++ b)
more_members d a b (at_first e) v = subst (AnyMembers d) (ap (λ zs. zs ++ b) (sym e)) (no_members, v.0, v.1, one_member v.2)
more_members d a b (behind_comma i c l s e) v = (members l.0 l.1 l.2, v.0, v.1, next_member i c b l.3 s v.2 (ap (λ zs. zs ++ b) e ∙ append_assoc i c b))

-- a value where one is wanted, in the depth that is left
pub value_done : (σ : Stack) (t b : List ℕ) → Wanted σ t → ((d : ℕ) → count σ + d ≡ DEPTH → AnyValue d b) → Had σ (t ++ b)
value_done [] t b w f =
    let v = f DEPTH refl in
    (v.0, record { before = t; inner = b; after = []; before_ws = w; is_value = v.1; after_ws = all_none is_ws; split = ap (λ zs. t ++ zs) (sym (append-nil b)) })
value_done (square ∷ σ) t b w f = grow_within (Wanted σ) (count σ) 91 (λ d. Started (AnyValues d)) AnyValues t b (λ d i r s. more_values d i b s (f d (omega (arith, r)))) w
value_done (curly ∷ σ) t b w f =
    grow_within (Wanted σ) (count σ) 123 (λ d. Joined (Started (AnyMembers d)) (Joined AnyString NameSeparator)) AnyMembers t b
    (λ d i r j. let v = f d (omega (arith, r)) in
    made (Started (AnyMembers d)) (Joined AnyString NameSeparator) (AnyMembers d) i b
    (λ x y s n. more_members d x (y ++ b) s (made AnyString NameSeparator (AnyMember d) y b (λ a c k z. (k.0, v.0, member a c b k.1 z v.1 refl)) n)) j) w
value_done (outside ∷ σ) t b w f = w

-- brackets
pub opens : (k : ℕ) (σ : Stack) (t b : List ℕ) → count σ < DEPTH → Structural k b → Wanted σ t → Opened k σ (t ++ b)
opens k σ t b l s w = record {
  depth = DEPTH - suc (count σ);
  room = omega (arith, l);
  outer = t;
  begin = b;
  inner = [];
  is_outer = w;
  is_begin = s;
  is_inner = refl;
  split = ap (λ zs. t ++ zs) (sym (append-nil b));
}

pub first_value : (σ : Stack) (t : List ℕ) → Opened 91 σ t → Wanted (square ∷ σ) t
first_value σ t w = weaken_within (Wanted σ) (count σ) 91 (λ d a. a ≡ []) (λ d. Started (AnyValues d)) t (λ d b e. at_first e) w

pub first_name : (σ : Stack) (t : List ℕ) → Opened 123 σ t → NameWanted (curly ∷ σ) t
first_name σ t w = weaken_within (Wanted σ) (count σ) 123 (λ d a. a ≡ []) (λ d. Started (AnyMembers d)) t (λ d b e. at_first e) w

pub next_value_wanted : (σ : Stack) (t c : List ℕ) → Structural 44 c → Had (square ∷ σ) t → Wanted (square ∷ σ) (t ++ c)
next_value_wanted σ t c s w = grow_within (Wanted σ) (count σ) 91 AnyValues (λ d. Started (AnyValues d)) t c (λ d b _ l. behind_comma b c l s refl) w

pub next_name_wanted : (σ : Stack) (t c : List ℕ) → Structural 44 c → Had (curly ∷ σ) t → NameWanted (curly ∷ σ) (t ++ c)
next_name_wanted σ t c s w = grow_within (Wanted σ) (count σ) 123 AnyMembers (λ d. Started (AnyMembers d)) t c (λ d b _ l. behind_comma b c l s refl) w

pub name_done : (σ : Stack) (t b : List ℕ) → Joined AnyString NameSeparator b → NameWanted σ t → Wanted σ (t ++ b)
name_done [] t b n w = absurd w
name_done (square ∷ σ) t b n w = absurd w
name_done (curly ∷ σ) t b n w =
    grow_within (Wanted σ) (count σ) 123 (λ d. Started (AnyMembers d)) (λ d. Joined (Started (AnyMembers d)) (Joined AnyString NameSeparator)) t b
    (λ d i _ s. join (Started (AnyMembers d)) (Joined AnyString NameSeparator) i b s n) w
name_done (outside ∷ σ) t b n w = absurd w

same_depth : (n d k : ℕ) (t : List ℕ) → n + suc d ≡ DEPTH → n + k ≡ DEPTH → AnyValue (suc d) t → AnyValue k t
same_depth n d k t r q v = let e : suc d ≡ k = omega (arith, r, q) in subst (λ i. AnyValue i t) e v

pub array_done : (σ : Stack) (t c : List ℕ) → Structural 93 c → Had (square ∷ σ) t → Had σ (t ++ c)
array_done σ t c s w =
    made_within (Wanted σ) (count σ) 91 AnyValues (Had σ) t c
    (λ d a b i r o g l. value_done σ a (b ++ (i ++ c)) o (λ k q. same_depth (count σ) d k (b ++ (i ++ c)) r q (array (values l.0 l.1), is_array b i c g l.2 s refl))) w

pub object_done : (σ : Stack) (t c : List ℕ) → Structural 125 c → Had (curly ∷ σ) t → Had σ (t ++ c)
object_done σ t c s w =
    made_within (Wanted σ) (count σ) 123 AnyMembers (Had σ) t c
    (λ d a b i r o g l. value_done σ a (b ++ (i ++ c)) o (λ k q. same_depth (count σ) d k (b ++ (i ++ c)) r q (object (members l.0 l.1 l.2), is_object b i c g l.3 s refl))) w

pub empty_array_done : (σ : Stack) (t c : List ℕ) → Structural 93 c → Opened 91 σ t → Had σ (t ++ c)
empty_array_done σ t c s w =
    made_within (Wanted σ) (count σ) 91 (λ d a. a ≡ []) (Had σ) t c
    (λ d a b i r o g e. value_done σ a (b ++ (i ++ c)) o (λ k q. same_depth (count σ) d k (b ++ (i ++ c)) r q
    (array no_values, is_empty_array b (i ++ c) g (subst (Structural 93) (ap (λ zs. zs ++ c) (sym e)) s) refl))) w

pub empty_object_done : (σ : Stack) (t c : List ℕ) → Structural 125 c → Opened 123 σ t → Had σ (t ++ c)
empty_object_done σ t c s w =
    made_within (Wanted σ) (count σ) 123 (λ d a. a ≡ []) (Had σ) t c
    (λ d a b i r o g e. value_done σ a (b ++ (i ++ c)) o (λ k q. same_depth (count σ) d k (b ++ (i ++ c)) r q
    (object no_members, is_empty_object b (i ++ c) g (subst (Structural 125) (ap (λ zs. zs ++ c) (sym e)) s) refl))) w

-- white space behind a whole text
pub text_space : (t : List ℕ) → Joined AnyText Ws t → AnyText t
text_space t j =
    let v = j.is_first.1 in (
      j.is_first.0,
      record {
        before = v.before;
        inner = v.inner;
        after = v.after ++ j.second;
        before_ws = v.before_ws;
        is_value = v.is_value;
        after_ws = all_append is_ws v.after j.second v.after_ws j.is_second;
        split = j.split ∙ ap (λ zs. zs ++ j.second) v.split ∙ three_more v.before v.inner v.after j.second;
      },
    )
