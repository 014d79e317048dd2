-- Laws of cutting a text at its slashes and of writing the pieces again.
use Rattle.std.proofs.Common.{◌≡◌, ℕ, zero, suc, ◌+◌, ◌-◌, ◌<◌, ◌≤◌, Bool, true, false, cond, not, ◌&&◌, eqb, List, [], ◌∷◌, ◌++◌, length, get_or, take, drop, sym, refl, ap, ◌∙◌, ⊎_elim, append_assoc, append-nil, arith}
use Rattle.std.specs.List.{slice_split, onto_first, list_all}
use Rattle.std.proofs.lemmas.List.{drop_all, length-append, take_at}
use Rattle.std.proofs.lemmas.Bool.{eqb-true, ne_eqb, cases_Bool, cond-true, cond-false, and_parts, and_from, not-true, not_from_false}
use Rattle.path.specs.Path.{plain, every, onto, split, behind, without_last}

onto_parts : (b : ℕ) (ss : List (List ℕ)) → onto_first b ss ≡ onto b ss
unfolding onto
onto_parts b [] = refl
onto_parts b (c ∷ cs) = refl

pub all_parts : (test : List ℕ → Bool) (cs : List (List ℕ)) → list_all test cs ≡ every test cs
unfolding every
all_parts test [] = refl
all_parts test (c ∷ cs) = ap (λ t. test c && t) (all_parts test cs)

-- the pieces are the parts that the library's `split` gives
pub split_parts : (xs : List ℕ) → slice_split (λ b. eqb b 47) xs ≡ split xs
unfolding split onto
split_parts [] = refl
split_parts (b ∷ bs) = ap (λ ss. cond (eqb b 47) ([] ∷ ss) (onto_first b ss)) (split_parts bs) ∙ ap (λ ss. cond (eqb b 47) ([] ∷ split bs) ss) (onto_parts b (split bs))

-- one byte more, at either end, that is no slash
pub plain_cons : (b : ℕ) (xs : List ℕ) → (b ≡ 47 → ⊥) → plain xs ≡ true → plain (b ∷ xs) ≡ true
unfolding plain
plain_cons b xs e h = and_from _ _ (not_from_false _ (ne_eqb b 47 e)) h

pub plain_push : (xs : List ℕ) (b : ℕ) → plain xs ≡ true → (b ≡ 47 → ⊥) → plain (xs ++ b ∷ []) ≡ true
unfolding plain
plain_push [] b h e = plain_cons b [] e refl
plain_push (x ∷ xs) b h e =
    let k = and_parts (not (eqb x 47)) (plain xs) h in
    and_from _ _ k.0 (plain_push xs b k.1 e)

-- what stands from a place on, where none of its bytes is a slash
pub plain_from : (xs : List ℕ) (k : ℕ) → ((i : ℕ) → k ≤ i → i < length xs → get_or xs i 0 ≡ 47 → ⊥) → plain (drop k xs) ≡ true
unfolding plain
plain_from [] k h = ap plain (drop_all k [] (omega arith))
plain_from (x ∷ xs) zero h = plain_cons x xs (h 0 (omega arith) (omega arith)) (plain_from xs 0 (λ i le lt. h (suc i) (omega arith) (omega arith)))
plain_from (x ∷ xs) (suc k) h = plain_from xs k (λ i le lt. h (suc i) (omega arith) (omega arith))

-- what a text that is not empty begins with, by whether that is a slash
split_slash : (b : ℕ) (bs : List ℕ) → eqb b 47 ≡ true → split (b ∷ bs) ≡ [] ∷ split bs
unfolding split
split_slash b bs e = cond-true (eqb b 47) ([] ∷ split bs) (onto b (split bs)) e

split_other : (b : ℕ) (bs : List ℕ) → eqb b 47 ≡ false → split (b ∷ bs) ≡ onto b (split bs)
unfolding split
split_other b bs e = cond-false (eqb b 47) ([] ∷ split bs) (onto b (split bs)) e

behind_onto : (b : ℕ) (ss : List (List ℕ)) (ys : List ℕ) → behind ss ≡ 47 ∷ ys → behind (onto b ss) ≡ 47 ∷ b ∷ ys
unfolding behind onto
behind_onto b [] ys e = cc
behind_onto b (c ∷ cs) ys e = let k : c ++ behind cs ≡ ys = cc in ap (λ zs. 47 ∷ b ∷ zs) k

-- the pieces, each behind a slash, are the text behind a slash
pub behind_split : (xs : List ℕ) → behind (split xs) ≡ 47 ∷ xs
unfolding behind split
behind_split [] = refl
behind_split (b ∷ bs) =
    ⊎_elim
    (λ e. ap behind (split_slash b bs e) ∙ ap (λ zs. 47 ∷ zs) (behind_split bs) ∙ ap (λ x. 47 ∷ x ∷ bs) (sym (eqb-true b 47 e)))
    (λ e. ap behind (split_other b bs e) ∙ behind_onto b (split bs) bs (behind_split bs))
    (cases_Bool (eqb b 47))

-- no piece holds a slash
every_onto : (b : ℕ) (ss : List (List ℕ)) → eqb b 47 ≡ false → every plain ss ≡ true → every plain (onto b ss) ≡ true
unfolding every plain onto
every_onto b [] e h = and_from _ _ (and_from _ _ (not_from_false _ e) refl) refl
every_onto b (c ∷ cs) e h =
    let k = and_parts (plain c) (every plain cs) h in
    and_from _ _ (and_from _ _ (not_from_false _ e) k.0) k.1

pub every_plain_split : (xs : List ℕ) → every plain (split xs) ≡ true
unfolding every plain split
every_plain_split [] = refl
every_plain_split (b ∷ bs) = ⊎_elim
    (λ e. ap (every plain) (split_slash b bs e) ∙ every_plain_split bs)
    (λ e. ap (every plain) (split_other b bs e) ∙ every_onto b (split bs) e (every_plain_split bs))
    (cases_Bool (eqb b 47))

-- a text without a slash is one piece
pub split_plain : (c : List ℕ) → plain c ≡ true → split c ≡ c ∷ []
unfolding plain split onto
split_plain [] h = refl
split_plain (b ∷ bs) h =
    let k = and_parts (not (eqb b 47)) (plain bs) h in
    split_other b bs (not-true (eqb b 47) k.0) ∙ ap (onto b) (split_plain bs k.1)

-- a text without a slash before the first slash is the first piece
pub split_at : (c rest : List ℕ) → plain c ≡ true → split (c ++ 47 ∷ rest) ≡ c ∷ split rest
unfolding plain split onto
split_at [] rest h = refl
split_at (b ∷ bs) rest h =
    let k = and_parts (not (eqb b 47)) (plain bs) h in
    split_other b (bs ++ 47 ∷ rest) (not-true (eqb b 47) k.0) ∙ ap (onto b) (split_at bs rest k.1)

onto_append : (b : ℕ) (ss ts : List (List ℕ)) (ys : List ℕ) → behind ss ≡ 47 ∷ ys → onto b (ss ++ ts) ≡ onto b ss ++ ts
unfolding behind onto
onto_append b [] ts ys e = cc
onto_append b (c ∷ cs) ts ys e = refl

-- a text without a slash after the last slash is the last piece
pub split_push : (xs c : List ℕ) → plain c ≡ true → split (xs ++ 47 ∷ c) ≡ split xs ++ c ∷ []
unfolding split
split_push [] c h = ap (λ ss. [] ∷ ss) (split_plain c h)
split_push (b ∷ bs) c h = ⊎_elim
    (λ e. split_slash b (bs ++ 47 ∷ c) e ∙ ap (λ ss. [] ∷ ss) (split_push bs c h) ∙ ap (λ ss. ss ++ c ∷ []) (sym (split_slash b bs e)))
    (λ e. split_other b (bs ++ 47 ∷ c) e ∙ ap (onto b) (split_push bs c h) ∙ onto_append b (split bs) (c ∷ []) bs (behind_split bs) ∙ ap (λ ss. ss ++ c ∷ []) (sym (split_other b bs e)))
    (cases_Bool (eqb b 47))

-- components without a slash are the pieces of what is written of them
pub split_behind : (c : List ℕ) (cs : List (List ℕ)) → every plain (c ∷ cs) ≡ true → split (c ++ behind cs) ≡ c ∷ cs
unfolding every behind
split_behind c [] h = ap split (append-nil c) ∙ split_plain c (and_parts (plain c) true h).0
split_behind c (d ∷ ds) h =
    let k = and_parts (plain c) (every plain (d ∷ ds)) h in
    split_at c (d ++ behind ds) k.0 ∙ ap (λ ss. c ∷ ss) (split_behind d ds k.1)

pub behind_push : (cs : List (List ℕ)) (c : List ℕ) → behind (cs ++ c ∷ []) ≡ behind cs ++ 47 ∷ c
unfolding behind
behind_push [] c = ap (λ xs. 47 ∷ xs) (append-nil c)
behind_push (d ∷ ds) c = ap (λ xs. 47 ∷ (d ++ xs)) (behind_push ds c) ∙ ap (λ xs. 47 ∷ xs) (sym (append_assoc d (behind ds) (47 ∷ c)))

pub without_last_push : (cs : List (List ℕ)) (c : List ℕ) → without_last (cs ++ c ∷ []) ≡ cs
unfolding without_last
without_last_push [] c = refl
without_last_push (d ∷ []) c = refl
without_last_push (d ∷ (e ∷ es)) c = ap (λ ss. d ∷ ss) (without_last_push (e ∷ es) c)

-- a text by what was passed of it without a slash: a slash is next, or nothing
module _ (text passed rest : List ℕ) (h : plain passed ≡ true) (whole : text ≡ passed ++ rest) where
  pub cut_at : (n b : ℕ) (piece next : List ℕ) → n ≡ length text - length next - 1 → piece ≡ take n text → rest ≡ b ∷ next → b ≡ 47 → split text ≡ piece ∷ split next
  cut_at n b piece next count e came slash =
      let i : rest ≡ 47 ∷ next = came ∙ ap (λ x. x ∷ next) slash in
      let last : n ≡ length passed = omega (arith, ap length whole, ap length i, length-append passed rest) in
      let front : take n text ≡ passed = ap (λ k. take k text) last ∙ ap (take (length passed)) whole ∙ take_at passed rest (length passed) refl in
      ap split (whole ∙ ap (λ r. passed ++ r) i) ∙ split_at passed next h ∙ ap (λ c. c ∷ split next) (sym (e ∙ front))

  pub cut_none : rest ≡ [] → split text ≡ text ∷ []
  cut_none i = let all : text ≡ passed = whole ∙ ap (λ r. passed ++ r) i ∙ append-nil passed in split_plain text (ap plain all ∙ h)

  pub passed_more : (b : ℕ) (next : List ℕ) → rest ≡ b ∷ next → text ≡ (passed ++ b ∷ []) ++ next
  passed_more b next i = whole ∙ ap (λ r. passed ++ r) i ∙ sym (append_assoc passed (b ∷ []) next)

-- the first of the pieces is plain
pub plain_first : (text piece : List ℕ) (rest : List (List ℕ)) → split text ≡ piece ∷ rest → plain piece ≡ true
unfolding every
plain_first text piece rest e = (and_parts (plain piece) (every plain rest) (ap (every plain) (sym e) ∙ every_plain_split text)).0

pub behind_first : (c : List ℕ) (cs : List (List ℕ)) → length (behind (c ∷ cs)) ≡ 1 + length c + length (behind cs)
unfolding behind
behind_first c cs = omega (arith, length-append c (behind cs))
