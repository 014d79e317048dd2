-- Laws of the parts of a specifier, byte by byte from the front.
use Rattle.std.proofs.Common.{◌≡◌, ℕ, ◌+◌, ◌<◌, ◌≤◌, Bool, true, false, cond, not, ◌&&◌, ◌||◌, eqb, Some, None, Option, zero, suc, List, [], ◌∷◌, length, get_or, take, drop, sym, refl, ap, ◌∙◌, ⊎_elim, arith, MatchOption}
use Rattle.std.proofs.lemmas.List.{drop_more, drop_all, length-take}
use Rattle.std.proofs.lemmas.Bool.{cases_Bool, cond-true, cond-false, and_from, and_right, eq-eqb, ne_eqb, not_from_false}
use Rattle.std.specs.Option.{unwrap_or}
use Rattle.std.specs.List.{list_any}
use Rattle.dts_resolver.specs.Specifier.{begins, holds, up_to_fragment, unfragmented, up_to_query, raw_path, query_of, fragment_of, present, unescaped}

-- the first byte starts no fragment, as if a zero byte stood before it
pub unfragmented_is : (text : List ℕ) → unfragmented text ≡ up_to_fragment 0 text
unfolding unfragmented up_to_fragment
unfragmented_is [] = refl
unfragmented_is (b ∷ bs) = sym (cond-false (eqb b 35 && false) [] (b ∷ up_to_fragment b bs) (and_right (eqb b 35) false refl))

-- whether a byte starts a fragment, by the byte before it
abbrev pub starts : ℕ → ℕ → Bool
starts before b = eqb b 35 && not (eqb before 0)

abbrev over : ℕ → List ℕ → Bool → List ℕ
over b bs test = cond test [] (b ∷ up_to_fragment b bs)

fragment_by : (before b : ℕ) (bs : List ℕ) (test : Bool) → starts before b ≡ test → up_to_fragment before (b ∷ bs) ≡ over b bs test
unfolding up_to_fragment
fragment_by before b bs test e = ap (over b bs) e

-- the first place from which on a fragment is, where `before` is the byte before the text, and none
fragment_at : (before : ℕ) (text : List ℕ) (i : ℕ) → i < length text → starts (get_or (before ∷ text) i 0) (get_or text i 0) ≡ true →
    ((k : ℕ) → k < i → starts (get_or (before ∷ text) k 0) (get_or text k 0) ≡ false) → length (up_to_fragment before text) ≡ i
fragment_at before [] i inside here earlier = absurd (omega arith)
fragment_at before (b ∷ bs) zero inside here earlier = ap length (fragment_by before b bs true here)
fragment_at before (b ∷ bs) (suc j) inside here earlier =
    omega (arith, ap length (fragment_by before b bs false (earlier 0 (omega arith))), fragment_at b bs j (omega arith) here (λ k l. earlier (suc k) (omega arith)))

fragment_nowhere : (before : ℕ) (text : List ℕ) → ((k : ℕ) → k < length text → starts (get_or (before ∷ text) k 0) (get_or text k 0) ≡ false) → length (up_to_fragment before text) ≡ length text
unfolding up_to_fragment
fragment_nowhere before [] none = refl
fragment_nowhere before (b ∷ bs) none =
    omega (arith, ap length (fragment_by before b bs false (none 0 (omega arith))), fragment_nowhere b bs (λ k l. none (suc k) (omega arith)))

-- the same, of the text and of what follows its first byte
fragment_after : (text rest : List ℕ) → rest ≡ drop 1 text → (i : ℕ) → i < length rest → get_or rest i 0 ≡ 35 → (get_or text i 0 ≡ 0 → ⊥) →
    ((k : ℕ) → k < i → starts (get_or text k 0) (get_or rest k 0) ≡ false) → i + 1 ≡ length (unfragmented text)
unfolding unfragmented
fragment_after [] rest tail i inside here other earlier = absurd (omega (arith, ap length tail))
fragment_after (b ∷ bs) rest tail i inside here other earlier =
    let test = and_from (eqb (get_or rest i 0) 35) (not (eqb (get_or (b ∷ bs) i 0) 0)) (eq-eqb (get_or rest i 0) 35 here) (not_from_false _ (ne_eqb (get_or (b ∷ bs) i 0) 0 other)) in
    omega (
      arith,
      fragment_at b bs i (omega (arith, ap length tail)) (ap (λ xs. starts (get_or (b ∷ bs) i 0) (get_or xs i 0)) (sym tail) ∙ test)
          (λ k l. ap (λ xs. starts (get_or (b ∷ bs) k 0) (get_or xs k 0)) (sym tail) ∙ earlier k l),
    )

fragment_never : (text rest : List ℕ) → rest ≡ drop 1 text → ((k : ℕ) → k < length rest → starts (get_or text k 0) (get_or rest k 0) ≡ false) → length text ≡ length (unfragmented text)
unfolding unfragmented
fragment_never [] rest tail none = refl
fragment_never (b ∷ bs) rest tail none =
    omega (
      arith,
      fragment_nowhere b bs (λ k l. ap (λ xs. starts (get_or (b ∷ bs) k 0) (get_or xs k 0)) (sym tail) ∙ none k (omega (arith, ap length tail))),
    )

pub fragment_found : (text rest : List ℕ) (r : Option ℕ) (n : ℕ) → rest ≡ drop 1 text →
    ((i : ℕ) → r ≡ Some i → (i < length rest) × ((get_or rest i 0 ≡ 35) × (get_or text i 0 ≡ 0 → ⊥))) →
    ((i : ℕ) → r ≡ Some i → (k : ℕ) → k < i → starts (get_or text k 0) (get_or rest k 0) ≡ false) →
    (r ≡ None → (k : ℕ) → k < length rest → starts (get_or text k 0) (get_or rest k 0) ≡ false) →
    MatchOption r (n ≡ length text) (λ i. n ≡ i + 1) → n ≡ length (unfragmented text)
fragment_found text rest (Some i) n tail here earlier none is = is ∙ fragment_after text rest tail i (here i refl).0 (here i refl).1.0 (here i refl).1.1 (earlier i refl)
fragment_found text rest None n tail here earlier none is = is ∙ fragment_never text rest tail (none refl)

-- what comes before the fragment is a front of the text
front_fragment : (before : ℕ) (text : List ℕ) → take (length (up_to_fragment before text)) text ≡ up_to_fragment before text
unfolding up_to_fragment
front_fragment before [] = refl
front_fragment before (b ∷ bs) =
    let test = eqb b 35 && not (eqb before 0) in
    ⊎_elim
    (λ e. let k = cond-true test [] (b ∷ up_to_fragment b bs) e in ap (λ xs. take (length xs) (b ∷ bs)) k ∙ sym k)
    (λ e. let k = cond-false test [] (b ∷ up_to_fragment b bs) e in
    ap (λ xs. take (length xs) (b ∷ bs)) k ∙ ap (λ xs. b ∷ xs) (front_fragment b bs) ∙ sym k)
    (cases_Bool test)

pub front_unfragmented : (text : List ℕ) → take (length (unfragmented text)) text ≡ unfragmented text
front_unfragmented text = ap (λ xs. take (length xs) text) (unfragmented_is text) ∙ front_fragment 0 text ∙ sym (unfragmented_is text)

-- the query starts at the first `?`
query_more : (b : ℕ) (bs : List ℕ) → (b ≡ 63 → ⊥) → up_to_query (b ∷ bs) ≡ b ∷ up_to_query bs
unfolding up_to_query
query_more b bs ne = cond-false (eqb b 63) [] (b ∷ up_to_query bs) (ne_eqb b 63 ne)

query_here : (b : ℕ) (bs : List ℕ) → b ≡ 63 → up_to_query (b ∷ bs) ≡ []
unfolding up_to_query
query_here b bs e = cond-true (eqb b 63) [] (b ∷ up_to_query bs) (eq-eqb b 63 e)

query_at_first : (text : List ℕ) (i : ℕ) → i < length text → get_or text i 0 ≡ 63 → ((k : ℕ) → k < i → get_or text k 0 ≡ 63 → ⊥) → i ≡ length (up_to_query text)
query_at_first [] i inside here before = absurd (omega arith)
query_at_first (b ∷ bs) zero inside here before = sym (ap length (query_here b bs here))
query_at_first (b ∷ bs) (suc j) inside here before =
    omega (arith, ap length (query_more b bs (before 0 (omega arith))), query_at_first bs j (omega arith) here (λ k l. before (suc k) (omega arith)))

query_nowhere : (text : List ℕ) → ((k : ℕ) → k < length text → get_or text k 0 ≡ 63 → ⊥) → length text ≡ length (up_to_query text)
unfolding up_to_query
query_nowhere [] none = refl
query_nowhere (b ∷ bs) none =
    omega (arith, ap length (query_more b bs (none 0 (omega arith))), query_nowhere bs (λ k l. none (suc k) (omega arith)))

pub query_found : (text : List ℕ) (r : Option ℕ) → ((i : ℕ) → r ≡ Some i → (i < length text) × (get_or text i 0 ≡ 63)) →
    ((i : ℕ) → r ≡ Some i → (k : ℕ) → k < i → get_or text k 0 ≡ 63 → ⊥) →
    (r ≡ None → (k : ℕ) → k < length text → get_or text k 0 ≡ 63 → ⊥) → unwrap_or r (length text) ≡ length (up_to_query text)
query_found text (Some i) here before none = query_at_first text i (here i refl).0 (here i refl).1 (before i refl)
query_found text None here before none = query_nowhere text (none refl)

pub front_query : (text : List ℕ) → take (length (up_to_query text)) text ≡ up_to_query text
unfolding up_to_query
front_query [] = refl
front_query (b ∷ bs) =
    ⊎_elim
    (λ e. let k = cond-true (eqb b 63) [] (b ∷ up_to_query bs) e in ap (λ xs. take (length xs) (b ∷ bs)) k ∙ sym k)
    (λ e. let k = cond-false (eqb b 63) [] (b ∷ up_to_query bs) e in
    ap (λ xs. take (length xs) (b ∷ bs)) k ∙ ap (λ xs. b ∷ xs) (front_query bs) ∙ sym k)
    (cases_Bool (eqb b 63))

-- the three parts, by the places where the query and the fragment start
module _ (text rest : List ℕ) (end start : ℕ) (ends : end ≡ length (unfragmented text)) (is : rest ≡ take end text)
    (starts : start ≡ length (up_to_query rest)) where
  pub rest_is : rest ≡ unfragmented text
  rest_is = is ∙ ap (λ n. take n text) ends ∙ front_unfragmented text

  pub path_is : take start rest ≡ raw_path text
  unfolding raw_path
  path_is = ap (λ n. take n rest) starts ∙ front_query rest ∙ ap up_to_query rest_is

  start_is : start ≡ length (raw_path text)
  unfolding raw_path
  start_is = starts ∙ ap (λ xs. length (up_to_query xs)) rest_is

  pub query_is : present (drop start rest) ≡ query_of text
  unfolding query_of
  query_is = ap (λ n. present (drop n rest)) start_is ∙ ap (λ xs. present (drop (length (raw_path text)) xs)) rest_is

  pub fragment_is : present (drop end text) ≡ fragment_of text
  unfolding fragment_of
  fragment_is = ap (λ n. present (drop n text)) ends

-- a text holds a byte if one of its bytes is that
pub holds_any : (c : ℕ) (text : List ℕ) → list_any (λ b. eqb b c) text ≡ holds c text
unfolding holds
holds_any c [] = refl
holds_any c (b ∷ bs) = ap (λ r. eqb b c || r) (holds_any c bs)

-- a zero byte right before a `#`, and any other byte
abbrev escapes : List ℕ → Bool
escapes xs = begins 0 xs && begins 35 (drop 1 xs)

pub unescaped_at : (raw rest : List ℕ) (i : ℕ) → i < length raw → rest ≡ drop i raw → (begins 0 rest && begins 35 (drop 1 rest)) ≡ true →
    unescaped (drop i raw) ≡ unescaped (drop (i + 1) raw)
unfolding unescaped
unescaped_at raw rest i l is e =
    let k = drop_more raw i 0 l in
    ap unescaped k ∙ cond-true _ (unescaped (drop (i + 1) raw)) (get_or raw i 0 ∷ unescaped (drop (i + 1) raw)) (ap escapes (sym (is ∙ k)) ∙ e)

pub unescaped_past : (raw rest : List ℕ) (i : ℕ) → i < length raw → rest ≡ drop i raw → (begins 0 rest && begins 35 (drop 1 rest)) ≡ false →
    unescaped (drop i raw) ≡ get_or raw i 0 ∷ unescaped (drop (i + 1) raw)
unfolding unescaped
unescaped_past raw rest i l is e =
    let k = drop_more raw i 0 l in
    ap unescaped k ∙ cond-false _ (unescaped (drop (i + 1) raw)) (get_or raw i 0 ∷ unescaped (drop (i + 1) raw)) (ap escapes (sym (is ∙ k)) ∙ e)

pub unescaped_none : (raw : List ℕ) (i : ℕ) → length raw ≤ i → unescaped (drop i raw) ≡ []
unfolding unescaped
unescaped_none raw i l = ap unescaped (drop_all i raw l)

-- what is written is no longer than what is read
pub length_unescaped : (raw : List ℕ) → length (unescaped raw) ≤ length raw
unfolding unescaped
length_unescaped [] = omega arith
length_unescaped (b ∷ bs) =
    let test = eqb b 0 && begins 35 bs in
    let short = length_unescaped bs in
    ⊎_elim
    (λ e. omega (arith, ap length (cond-true test (unescaped bs) (b ∷ unescaped bs) e)))
    (λ e. omega (arith, ap length (cond-false test (unescaped bs) (b ∷ unescaped bs) e)))
    (cases_Bool test)

-- no part is longer than the specifier
short_front : (n : ℕ) (xs ys : List ℕ) → take n xs ≡ ys → length ys ≤ length xs
short_front n xs ys e = omega (arith, length-take n xs, ap length e)

pub length_raw_path : (text : List ℕ) → length (raw_path text) ≤ length text
unfolding raw_path
length_raw_path text =
    omega (
      arith,
      short_front (length (unfragmented text)) text (unfragmented text) (front_unfragmented text),
      short_front (length (up_to_query (unfragmented text))) (unfragmented text) (up_to_query (unfragmented text)) (front_query (unfragmented text)),
    )
