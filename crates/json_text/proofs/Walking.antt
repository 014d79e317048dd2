-- Going from one item to the next: where a value stands, reading it never stops, and ends at one place.
use Rattle.std.proofs.Common.{◌≡◌, ℕ, ◌+◌, ◌<◌, ◌≤◌, ◌≢◌, true, false, eqb, ◌⊎◌, List, [], ◌∷◌, ◌++◌, length, get_or, drop, Some, None, Option, Result, Ok, Err, sym, refl, ap, ◌∙◌, subst, inl, inr, ⊎_elim, arith, IfSome, MatchOption, MatchResult}
use Rattle.std.specs.List.{between}
use Rattle.std.specs.Result.{result_ok}
use Rattle.std.proofs.lemmas.List.{get_or_past}
use Rattle.std.proofs.lemmas.Bool.{cases_Bool, cases_lt, ne_eqb, eqb-true, eqb-false}
use Rattle.json_text.specs.Json.{is_ws, Json}
use Rattle.json_text.specs.Machine.{Stack, count, State, outside, is_name, to, step, stopped, ended, run, from, left, want, have, want_name, want_colon, in_string, done, past}
use Rattle.json_text.specs.Reading.{Reads, Stops, Any, Room, AnyValue, Spaced, NameColon}
use Rattle.json_string.specs.Machine.{plain}
use Rattle.json_string.specs.Reading.{StringAt}
use Rattle.json_string.proofs.Stopping.{same_end}
use Rattle.json_text.specs.Standing.{Space, CommaTo, OpensTo, ValueAt, ItemsAt, ItemsBehind, item, closed, comma, Found, elements, entries, Entry, entry, ColonAt, MemberAt}
use Rattle.json_text.specs.Brackets.{opening, closing, FirstFound}
use Rattle.json_text.specs.declared.brackets.Bracket.{Bracket}
use Rattle.json_text.specs.declared.brackets.Bracket.TheVariants.{Square, Curly}
use Rattle.json_text.proofs.StepLaws as law
use Rattle.json_text.proofs.Runs.{left_first, left_end, run_to, run_all, from_to, from_dead, from_over, from_split}
use Rattle.json_text.proofs.Accepts.{Breaks, value_runs, want_wants}
use Rattle.json_text.proofs.Places.{stopped_at, stopped_not_ended, length_left}
use Rattle.json_text.proofs.Segments.{space_once}
use Rattle.json_text.proofs.StringParts.{chars_go, string_closes}
use Rattle.json_text.proofs.MemberStandings.{object_opens_to, first_none, no_entries}
use Rattle.json_text.proofs.Standings.{array_opens_to, first_found, first_place, no_elements, value_first}
use Rattle.json_text.specs.declared.texts.TheConstants.{DEPTH}

-- what `ok` keeps of a result
pub told_ok : {T E : Type 0} (r : Result T E) (P : T → Type 0) (Q : E → Type 0) (x : T) → Some x ≡ result_ok r → MatchResult r P Q → P x
told_ok (Ok y) P Q x e m = let q : y ≡ x = cc in subst P q m
told_ok (Err y) P Q x e m = absurd (cc)

pub told_err : {T E : Type 0} (r : Result T E) (P : T → Type 0) (Q : E → Type 0) → None ≡ result_ok r → MatchResult r P Q → (y : E) × Q y
told_err (Ok x) P Q e m = absurd (cc)
told_err (Err y) P Q e m = (y, m)

-- the machine over a value that stands at a place
pub value_from : (t : List ℕ) (at end : ℕ) (v : Json) → ValueAt t at end v → (σ : Stack) → count σ ≡ 0 → from (want σ) at t ≡ from (have σ) end t
unfolding from
value_from t at end v p σ z =
    let f = left_first t end in
    let n = p.ends in
    let b : Breaks (left end t) = record { first = get_or t end 256; others = f.0; no_digit = n.no_digit; no_point = n.no_point; no_e = n.no_e; split = f.1 } in
    from_split (want σ) at end t p.not_before ∙ value_runs p.is_value (want σ) σ (left end t) (want_wants σ) (omega arith) b

pub space_from : (s : State) (t : List ℕ) (a b : ℕ) → ((x : ℕ) → is_ws x ≡ true → step s x ≡ to s) → Space t a b → from s a t ≡ from s b t
space_from s t a b h w = from_over s s a b t w.not_before (λ ys. run_all is_ws s h (between a b t) ys w.pass)

-- what follows a value that is read alone does not stop the machine
past_run : (xs : List ℕ) → run past xs ≡ ended past
unfolding run
past_run [] = refl
past_run (x ∷ xs) = run_to past past x xs (law.past_stays x) ∙ past_run xs

outside_run : (xs : List ℕ) → run (have (outside ∷ [])) (xs ++ 256 ∷ []) ≡ ended past
outside_run [] = run_to (have (outside ∷ [])) past 256 [] (law.outside_value [] 256 (law.no_ws 256 (omega arith))) ∙ past_run []
outside_run (x ∷ xs) =
    ⊎_elim
    (λ h. run_to (have (outside ∷ [])) (have (outside ∷ [])) x (xs ++ 256 ∷ []) (law.have_ws (outside ∷ []) x h) ∙ outside_run xs)
    (λ h. run_to (have (outside ∷ [])) past x (xs ++ 256 ∷ []) (law.outside_value [] x h) ∙ past_run (xs ++ 256 ∷ []))
    (cases_Bool (is_ws x))

outside_from : (t : List ℕ) (i : ℕ) → from (have (outside ∷ [])) i t ≡ ended past
unfolding from
outside_from t i = outside_run (drop i t)

-- where an item stands, its reader does not stop
pub never_stops : (R : List ℕ → Type 0) (s : Stack → State) (Fit : Stack → Type 0) → Fit (outside ∷ []) → (t : List ℕ) (at end place : ℕ) → from (s (outside ∷ [])) at t ≡ from (have (outside ∷ [])) end t → Stops R s Fit t at place → ⊥
never_stops R s Fit f t at end place h p = stopped_not_ended (left place t) past (sym (p.stops (outside ∷ []) f) ∙ h ∙ outside_from t end)

-- the place behind an item, where a comma or the closing bracket stands
pub record Behind (t : List ℕ) (c end : ℕ) : Type 0 where
  pub place : ℕ
  pub space : Space t end place
  pub here : (get_or t place 256 ≡ c) ⊎ (get_or t place 256 ≡ 44)

pub behind : {X : Type 0} {t : List ℕ} {Item : ℕ → ℕ → X → Type 0} {c end : ℕ} {xs : List X} → ItemsBehind t Item c end xs → Behind t c end
behind (closed place s e) = record { place = place; space = s; here = inl e }
behind (comma place next s e w i) = record { place = place; space = s; here = inr e }

pub behind_byte : (t : List ℕ) (c end : ℕ) → c < 256 → (b : Behind t c end) → get_or t b.place 256 < 256
behind_byte t c end l b = ⊎_elim (λ q. omega arith) (λ q. omega arith) b.here

end_run : run (have []) (256 ∷ []) ≡ ended done
unfolding run
end_run = run_to (have []) done 256 [] law.text_end

pub stop_once : (t : List ℕ) (f g : ℕ) → ((i : ℕ) → i < length t → get_or t i 256 < 256) → f ≤ length t → g ≤ length t → is_ws (get_or t g 256) ≡ false →
    from (have []) g t ≡ stopped (left f t) → g ≡ f
unfolding from
stop_once t f g bytes l m h e =
    ⊎_elim
    (λ i.
    let d = from_dead (have []) g t (law.text_dead (get_or t g 256) h (ne_eqb _ _ (λ q. omega (arith, bytes g i)))) in
    let n = ap length (stopped_at (left g t) (left f t) (sym d ∙ e)) in
    omega (arith, n, length_left t g, length_left t f))
    (λ i. absurd (stopped_not_ended (left f t) done (sym e ∙ ap (run (have [])) (left_end t g i) ∙ end_run)))
    (cases_lt g (length t))

-- where the value that stands at a place is read to
pub read_to : (t : List ℕ) (at end g place : ℕ) (v : Json) → ((i : ℕ) → i < length t → get_or t i 256 < 256) → ValueAt t at end v → Space t end place → get_or t place 256 < 256 →
    Reads (Spaced (AnyValue DEPTH)) want have (Room DEPTH) t at g → is_ws (get_or t g 256) ≡ false → g ≡ place
read_to t at end g place v bytes p s l r w =
    stop_once t place g bytes s.inside r.inside w
    (sym (r.runs [] refl) ∙ value_from t at end v p [] refl ∙ space_from (have []) t end place (law.have_ws []) s
    ∙ from_dead (have []) place t (law.text_dead (get_or t place 256) s.stops (ne_eqb _ _ (λ e. omega arith))))

pub stands_unstopped : (t : List ℕ) (at end place : ℕ) (v : Json) → ValueAt t at end v → Stops (Spaced (AnyValue DEPTH)) want (Room DEPTH) t at place → ⊥
stands_unstopped t at end place v p s = never_stops (Spaced (AnyValue DEPTH)) want (Room DEPTH) refl t at end place (value_from t at end v p (outside ∷ []) refl) s

pub next_found : {X : Type 0} {t : List ℕ} {Item : ℕ → ℕ → X → Type 0} {c end : ℕ} {xs : List X} → ItemsBehind t Item c end xs → (c ≡ 44 → ⊥) → (g n : ℕ) → Space t end g → eqb (get_or t g 256) 44 ≡ true → Space t (g + 1) n →
    Found t Item c (Some n) xs
next_found {t = t} (closed {end = end} place s e) u g n r h w = u (sym e ∙ ap (λ i. get_or t i 256) (space_once t end place g s r) ∙ eqb-true _ _ h)
next_found {t = t} {Item = Item} {c = c} (comma {end = end} place next s e v i) u g n r h w = go i (space_once t (g + 1) next n (subst (λ j. Space t (j + 1) next) (space_once t end place g s r) v) w)
  where
    go : {j : ℕ} {xs : List _} → ItemsAt t Item c j xs → j ≡ n → Found t Item c (Some n) xs
    go (item {x = x} {xs = ys} last p b) q = subst (λ z. ItemsAt t Item c z (x ∷ ys)) q (item last p b)

pub none_found : {X : Type 0} {t : List ℕ} {Item : ℕ → ℕ → X → Type 0} {c end : ℕ} {xs : List X} → ItemsBehind t Item c end xs → (g : ℕ) → Space t end g → eqb (get_or t g 256) 44 ≡ false →
    Found t Item c None xs
none_found (closed place s e) g r h = tt
none_found {t = t} (comma {end = end} place next s e v i) g r h = absurd (eqb-false _ _ h (ap (λ i. get_or t i 256) (sym (space_once t end place g s r)) ∙ e))

-- where the first item stands
abbrev FirstAt : Bracket → List ℕ → ℕ → Option ℕ → Type 0
FirstAt b t at r =
    MatchOption r ((place : ℕ) × Space t (at + 1) place × (eqb (get_or t place 256) (closing b) ≡ true)) (λ place. Space t (at + 1) place × (eqb (get_or t place 256) (closing b) ≡ false))

pub first_in : (b : Bracket) (t : List ℕ) (at end : ℕ) (v : Json) → ValueAt t at end v → get_or t at 256 ≡ opening b → (r : Option ℕ) → FirstAt b t at r → FirstFound b t r v
first_in Square t at end v p h None q = first_found t q.0 (elements v) (array_opens_to t at end q.0 v p h q.1) (eqb-true _ _ q.2)
first_in Square t at end v p h (Some place) q = first_place t (ValueAt t) 93 place (elements v) (array_opens_to t at end place v p h q.0) (eqb-false _ _ q.1)
first_in Curly t at end v p h None q = first_none t q.0 (entries v) (object_opens_to t at end q.0 v p h q.1) (eqb-true _ _ q.2)
first_in Curly t at end v p h (Some place) q = first_place t (MemberAt t) 125 place (entries v) (object_opens_to t at end place v p h q.0) (eqb-false _ _ q.1)

-- no bracket opens past the end
pub none_past : (b : Bracket) (t : List ℕ) (at place : ℕ) → length t < at → OpensTo (opening b) (closing b) t at place → ⊥
none_past Square t at place l p = let e : get_or t at 256 ≡ 256 = get_or_past t at 256 (omega arith) in omega (arith, p.opens)
none_past Curly t at place l p = let e : get_or t at 256 ≡ 256 = get_or_past t at 256 (omega arith) in omega (arith, p.opens)

-- any other value has none
pub none_in : (b : Bracket) (t : List ℕ) (at end : ℕ) (v : Json) → ValueAt t at end v → (get_or t at 256 ≢ opening b) → FirstFound b t None v
none_in Square t at end v p h = subst (Found t (ValueAt t) 93 None) (sym (no_elements v _ (value_first t at end v p).1 h)) tt
none_in Curly t at end v p h = subst (Found t (MemberAt t) 125 None) (sym (no_entries v _ (value_first t at end v p).1 h)) tt

pub found_next : {X : Type 0} (t : List ℕ) (Item : ℕ → ℕ → X → Type 0) (c end g : ℕ) (xs : List X) → (c ≡ 44 → ⊥) → Space t end g → ItemsBehind t Item c end xs → (r : Option ℕ) →
    MatchOption r (eqb (get_or t g 256) 44 ≡ false) (λ place. Space t (g + 1) place × (eqb (get_or t g 256) 44 ≡ true)) → Found t Item c r xs
found_next t Item c end g xs u s i None q = none_found i g s q
found_next t Item c end g xs u s i (Some place) q = next_found i u g place s q.1 q.0

-- a name and a colon end at one place
pub colon_once : (t : List ℕ) (at p q : ℕ) (j k : List ℕ) → ColonAt t at p j → ColonAt t at q k → p ≡ q
colon_once t at p q j k a b =
    let n : a.name_end ≡ b.name_end = same_end t (at + 1) a.name_end b.name_end (string_of_lem a) (string_of_lem b) in
    let c : a.colon ≡ b.colon = space_once t (b.name_end + 1) a.colon b.colon (subst (λ i. Space t (i + 1) a.colon) n a.before_colon) b.before_colon in
    space_once t (b.colon + 1) p q (subst (λ i. Space t (i + 1) p) c a.behind_colon) b.behind_colon
  where
    string_of_lem : {r : ℕ} {l : List ℕ} (x : ColonAt t at r l) → StringAt t (at + 1) x.name_end
    string_of_lem {r} {l} x = record { not_before = x.name.not_before; inside = x.name.inside; closing = x.name.closing; chars = (l, x.name.is_name) }

-- the machine over a name and a colon
colon_from : (t : List ℕ) (at place : ℕ) (k : List ℕ) → ColonAt t at place k → (σ : Stack) → from (want_name σ) at t ≡ from (want σ) place t
colon_from t at place k a σ =
    let n = a.name in
    let l : at < length t = omega (arith, n.not_before, n.inside) in
    let m : a.colon < length t = omega (arith, a.behind_colon.not_before, a.behind_colon.inside) in
    from_to (want_name σ) (in_string is_name plain σ) at t l (ap (step (want_name σ)) n.opening ∙ law.name_quote σ)
    ∙ from_over (in_string is_name plain σ) (in_string is_name plain σ) (at + 1) a.name_end t n.not_before (λ ys. chars_go is_name σ (between (at + 1) a.name_end t) k ys n.is_name)
    ∙ from_to (in_string is_name plain σ) (want_colon σ) a.name_end t n.inside (ap (step (in_string is_name plain σ)) n.closing ∙ string_closes is_name σ)
    ∙ space_from (want_colon σ) t (a.name_end + 1) a.colon (law.want_colon_ws σ) a.before_colon
    ∙ from_to (want_colon σ) (want σ) a.colon t m (ap (step (want_colon σ)) a.colon_there ∙ law.colon σ)
    ∙ space_from (want σ) t (a.colon + 1) place (law.want_ws σ) a.behind_colon

pub member_unstopped : (t : List ℕ) (at end place : ℕ) (e : Entry) → MemberAt t at end e → Stops NameColon want_name Any t at place → ⊥
member_unstopped t at end place e m s =
    never_stops NameColon want_name Any tt t at end place (colon_from t at m.place e.name m.name (outside ∷ []) ∙ value_from t m.place end e.value m.stands (outside ∷ []) refl) s

-- a member begins with a quotation mark
pub member_start : (t : List ℕ) (at end : ℕ) (e : Entry) → MemberAt t at end e → (at ≤ length t) × (is_ws (get_or t at 256) ≡ false)
member_start t at end e m = (omega (arith, m.name.name.not_before, m.name.name.inside), ap is_ws m.name.name.opening ∙ (law.no_ws 34 (omega arith)))

pub member_value : (t : List ℕ) (at end place : ℕ) (e : Entry) → MemberAt t at end e → (k : List ℕ) × ColonAt t at place k → ValueAt t place end e.value
member_value t at end place e m c = subst (λ i. ValueAt t i end e.value) (colon_once t at m.place place e.name c.0 m.name c.1) m.stands

-- the item behind the one that stands at a place
pub next_by : {X : Type 0} (t : List ℕ) (Item : ℕ → ℕ → X → Type 0) (c at : ℕ) (x : X) (xs : List X) → c < 256 → (c ≡ 44 → ⊥) → (r : Option ℕ) →
    ((end place : ℕ) → Item at end x → Space t end place → get_or t place 256 < 256 → MatchOption r (eqb (get_or t place 256) 44 ≡ false) (λ next. Space t (place + 1) next × (eqb (get_or t place 256) 44 ≡ true))) →
    ItemsAt t Item c at (x ∷ xs) → Found t Item c r xs
next_by t Item c at x xs l u r f (item end p i) =
    let b = behind i in
    found_next t Item c end b.place xs u b.space i r (f end b.place p b.space (behind_byte t c end l b))

pub some_item : {X : Type 0} {t : List ℕ} {Item : ℕ → ℕ → X → Type 0} {c at : ℕ} {x : X} {xs : List X} → ItemsAt t Item c at (x ∷ xs) → (end : ℕ) × Item at end x
some_item (item end p i) = (end, p)

-- the one place behind an item and its comma
pub comma_once : (t : List ℕ) (end next : ℕ) (c : CommaTo t end next) (r : Option ℕ) →
    MatchOption r (eqb (get_or t c.comma 256) 44 ≡ false) (λ n. Space t (c.comma + 1) n × (eqb (get_or t c.comma 256) 44 ≡ true)) → r ≡ Some next
comma_once t end next c None q = absurd (eqb-false _ _ q c.comma_there)
comma_once t end next c (Some n) q = ap (λ i. Some i) (space_once t (c.comma + 1) n next q.0 c.behind_comma)

-- a name and a value are a member
pub member_behind : (t : List ℕ) (at place : ℕ) (r : Option ℕ) → (k : List ℕ) × ColonAt t at place k → IfSome r (λ next. (end : ℕ) × (v : Json) × ValueAt t place end v × CommaTo t end next) →
    IfSome r (λ next. (end : ℕ) × (e : Entry) × MemberAt t at end e × CommaTo t end next)
member_behind t at place None c q = tt
member_behind t at place (Some n) c q = (q.0, entry c.0 q.1, record { place = place; name = c.1; stands = q.2 }, q.3)

-- an item stands behind its bracket
pub opened_further : (opening-byte closing-byte : ℕ) (t : List ℕ) (at : ℕ) (r : Option ℕ) → MatchOption r ((place : ℕ) → OpensTo opening-byte closing-byte t at place → ⊥) (λ place. OpensTo opening-byte closing-byte t at place) → IfSome r (λ place. at < place)
opened_further x y t at None q = tt
opened_further x y t at (Some p) q = omega (arith, q.behind_bracket.not_before)
