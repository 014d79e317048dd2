-- Laws of normal paths: a normal path is written of its components, and what is written of proper ones is normal.
use lib.Pointwise.{pointwise}
use Rattle.std.proofs.Common.{◌≡◌, ℕ, zero, suc, ◌+◌, ◌<◌, max, Bool, true, false, cond, eqb, List, [], ◌∷◌, ◌++◌, length, get_or, take, drop, Decides, sym, refl, ap, ◌∙◌, arith, take-append-drop}
use Rattle.std.proofs.lemmas.List.{drop_more}
use Rattle.std.proofs.lemmas.Bool.{eqb-true, eq-eqb, ne_eqb, and_parts, and_from, and_left, and_right, not_from_false, not_from_true, or_from, both_ways, cond_both}
use Rattle.path.specs.Path.{plain, stays, goes_up, proper, every, split, behind, written, components, normal, without_last, has_parent, parent_of, put, IsWritten}
use Rattle.path.proofs.Cutting.{behind_split, split_plain, split_push, split_behind, without_last_push, every_plain_split}

pub every_push : (test : List ℕ → Bool) (cs : List (List ℕ)) (c : List ℕ) → every test cs ≡ true → test c ≡ true → every test (cs ++ c ∷ []) ≡ true
unfolding every
every_push test [] c h k = and_from _ _ k refl
every_push test (d ∷ ds) c h k =
    let both = and_parts (test d) (every test ds) h in
    and_from _ _ both.0 (every_push test ds c both.1 k)

pub every_without_last : (test : List ℕ → Bool) (cs : List (List ℕ)) → every test cs ≡ true → every test (without_last cs) ≡ true
unfolding every without_last
every_without_last test [] h = refl
every_without_last test (c ∷ []) h = refl
every_without_last test (c ∷ (d ∷ ds)) h =
    let both = and_parts (test c) (every test (d ∷ ds)) h in
    and_from _ _ both.0 (every_without_last test (d ∷ ds) both.1)

written_from : (ss : List (List ℕ)) (ys : List ℕ) → behind ss ≡ 47 ∷ ys → written ss ≡ 47 ∷ ys
unfolding behind written
written_from [] ys e = cc
written_from (c ∷ cs) ys e = e

pub written_split : (xs : List ℕ) → written (split xs) ≡ 47 ∷ xs
written_split xs = written_from (split xs) xs (behind_split xs)

-- what begins with a slash is written of its components
pub written_components_slash : (xs : List ℕ) → written (components (47 ∷ xs)) ≡ 47 ∷ xs
unfolding components written
written_components_slash [] = refl
written_components_slash (x ∷ xs) = written_split (x ∷ xs)

-- a normal path begins with a slash
pub normal_slash : (p : List ℕ) → normal p ≡ true → p ≡ 47 ∷ drop 1 p
unfolding normal
normal_slash [] h = cc
normal_slash (b ∷ bs) h = ap (λ x. x ∷ bs) (eqb-true b 47 (and_parts _ _ h).0)

pub normal_proper : (p : List ℕ) → normal p ≡ true → every proper (components p) ≡ true
unfolding normal
normal_proper [] h = cc
normal_proper (b ∷ bs) h = (and_parts (eqb b 47) (every proper (components (b ∷ bs))) h).1

pub plain_components : (p : List ℕ) → every plain (components p) ≡ true
unfolding every components
plain_components [] = refl
plain_components (b ∷ []) = refl
plain_components (b ∷ (x ∷ xs)) = every_plain_split (x ∷ xs)

pub written_components : (p : List ℕ) → normal p ≡ true → written (components p) ≡ p
written_components p h =
    let e = normal_slash p h in
    ap (λ q. written (components q)) e ∙ written_components_slash (drop 1 p) ∙ sym e

pub components_written : (cs : List (List ℕ)) → every proper cs ≡ true → every plain cs ≡ true → components (written cs) ≡ cs
unfolding every proper stays components written behind
components_written [] h k = refl
components_written ([] ∷ cs) h k = cc
components_written ((x ∷ xs) ∷ cs) h k = split_behind (x ∷ xs) cs k

normal_begins : (ds : List (List ℕ)) → every proper (components (written ds)) ≡ true → normal (written ds) ≡ true
unfolding normal written behind
normal_begins [] e = e
normal_begins (d ∷ ds) e = e

pub normal_written : (cs : List (List ℕ)) → every proper cs ≡ true → every plain cs ≡ true → normal (written cs) ≡ true
normal_written cs h k = normal_begins cs (ap (every proper) (components_written cs h k) ∙ h)

-- a path by its first byte, and by what stands behind it
pub normal_other : (p : List ℕ) → ((u : List ℕ) → p ≡ 47 ∷ u → ⊥) → false ≡ normal p
unfolding normal
normal_other [] n = refl
normal_other (b ∷ bs) n = sym (and_left _ _ (ne_eqb b 47 (λ e. n bs (ap (λ x. x ∷ bs) e))))

-- a path that begins with a slash, and what stands behind it
pub slash_before : (p rest : List ℕ) → pointwise eqb (take 1 p) (47 ∷ []) ≡ true → rest ≡ drop 1 p → p ≡ 47 ∷ rest
slash_before [] rest h e = cc
slash_before (b ∷ bs) rest h e = ap (λ x. x ∷ bs) (eqb-true b 47 (and_parts (eqb b 47) true h).0) ∙ ap (λ xs. 47 ∷ xs) (sym e)

pub normal_without_slash : (p : List ℕ) → pointwise eqb (take 1 p) (47 ∷ []) ≡ false → false ≡ normal p
normal_without_slash p h = normal_other p (λ u e. let k : true ≡ false = sym (ap (λ q. pointwise eqb (take 1 q) (47 ∷ [])) e) ∙ h in cc)

pub normal_slash_alone : (p rest : List ℕ) (n : ℕ) → p ≡ 47 ∷ rest → n ≡ length rest → n ≡ 0 → eqb n 0 ≡ normal p
unfolding normal components every
normal_slash_alone p [] n e l z = eq-eqb n 0 z ∙ sym (ap normal e)
normal_slash_alone p (x ∷ xs) n e l z = absurd (omega arith)

pub normal_slash_pieces : (p rest : List ℕ) (n : ℕ) (r : Bool) → p ≡ 47 ∷ rest → n ≡ length rest → (n ≡ 0 → ⊥) → r ≡ every proper (split rest) → r ≡ normal p
unfolding normal components
normal_slash_pieces p [] n r e l z h = absurd (z l)
normal_slash_pieces p (x ∷ xs) n r e l z h = h ∙ sym (ap normal e)

pub normal_first : (p : List ℕ) → normal p ≡ true → (0 < length p) × (get_or p 0 0 ≡ 47)
unfolding normal
normal_first [] h = absurd (both_ways false refl h)
normal_first (b ∷ bs) h = (omega arith, eqb-true b 47 (and_parts _ _ h).0)

-- a path is normal exactly if it is written of proper components without a slash
pub normal_decides : (p : List ℕ) → Decides (normal p) (IsWritten p)
normal_decides p = (
  λ h. (components p, normal_proper p h, plain_components p, sym (written_components p h)),
  λ w. ap normal w.3 ∙ normal_written w.0 w.1 w.2,
)

-- the parent of a path of more than one byte ends before the last slash, or behind it where that is the first byte
pub parent_is : (b x : ℕ) (xs : List ℕ) (r : ℕ) → b ≡ 47 → r < length (b ∷ x ∷ xs) → get_or (b ∷ x ∷ xs) r 0 ≡ 47 →
    plain (drop (r + 1) (b ∷ x ∷ xs)) ≡ true → take (max r 1) (b ∷ x ∷ xs) ≡ parent_of (b ∷ x ∷ xs)
unfolding parent_of components written without_last
parent_is b x xs zero e lt slash h =
    ap (λ z. z ∷ []) e ∙ sym (ap (λ ss. written (without_last ss)) (split_plain (x ∷ xs) h))
parent_is b x xs (suc k) e lt slash h =
    let q = x ∷ xs in
    let l : k < length (x ∷ xs) = omega arith in
    let m : max (suc k) 1 ≡ suc k = omega arith in
    let n : suc k + 1 ≡ suc (k + 1) = omega arith in
    let last : plain (drop (k + 1) (x ∷ xs)) ≡ true = sym (ap (λ i. plain (drop i (b ∷ x ∷ xs))) n) ∙ h in
    let whole : x ∷ xs ≡ take k (x ∷ xs) ++ 47 ∷ drop (k + 1) (x ∷ xs) =
    sym (take-append-drop k (x ∷ xs)) ∙ ap (λ zs. take k (x ∷ xs) ++ zs) (drop_more (x ∷ xs) k 0 l ∙ ap (λ z. z ∷ drop (k + 1) (x ∷ xs)) slash) in
    let cut : split (x ∷ xs) ≡ split (take k (x ∷ xs)) ++ drop (k + 1) (x ∷ xs) ∷ [] =
    ap split whole ∙ split_push (take k (x ∷ xs)) (drop (k + 1) (x ∷ xs)) last in
    ap (λ i. take i (b ∷ x ∷ xs)) m ∙ ap (λ z. z ∷ take k (x ∷ xs)) e ∙ sym (written_split (take k (x ∷ xs)))
    ∙ ap written (sym (ap without_last cut ∙ without_last_push (split (take k (x ∷ xs))) (drop (k + 1) (x ∷ xs))))

pub parent_at : (p : List ℕ) (r : ℕ) → normal p ≡ true → (length p ≡ 1 → ⊥) → r < length p → get_or p r 0 ≡ 47 →
    plain (drop (r + 1) p) ≡ true → take (max r 1) p ≡ parent_of p
parent_at [] r h l lt slash last = absurd (omega arith)
parent_at (b ∷ []) r h l lt slash last = absurd (l refl)
parent_at (b ∷ (x ∷ xs)) r h l lt slash last = parent_is b x xs r (normal_first (b ∷ (x ∷ xs)) h).1 lt slash last

-- a path has a parent if it is normal and of more than one byte
pub has_parent_not : (p : List ℕ) → normal p ≡ false → has_parent p ≡ false
unfolding has_parent
has_parent_not p h = and_left _ _ h

pub has_parent_root : (p : List ℕ) → normal p ≡ true → length p ≡ 1 → has_parent p ≡ false
unfolding has_parent
has_parent_root [] h l = absurd (omega arith)
has_parent_root (b ∷ []) h l =
    and_right _ _ (not_from_true _ (and_from _ _ (eq-eqb b 47 (normal_first (b ∷ []) h).1) refl))
has_parent_root (b ∷ (x ∷ xs)) h l = absurd (omega arith)

pub has_parent_longer : (p : List ℕ) → normal p ≡ true → (length p ≡ 1 → ⊥) → has_parent p ≡ true
unfolding has_parent
has_parent_longer [] h l = and_from _ _ h refl
has_parent_longer (b ∷ []) h l = absurd (l refl)
has_parent_longer (b ∷ (x ∷ xs)) h l = and_from _ _ h (not_from_false _ (and_right (eqb b 47) false refl))

pub normal_parent : (p : List ℕ) → normal p ≡ true → normal (parent_of p) ≡ true
unfolding parent_of
normal_parent p h =
    normal_written (without_last (components p))
    (every_without_last proper (components p) (normal_proper p h))
    (every_without_last plain (components p) (plain_components p))

-- what holds of each component, and of the piece if it is proper, holds of each after the piece is put on
pub every_put : (test : List ℕ → Bool) (cs : List (List ℕ)) (c : List ℕ) → every test cs ≡ true → (proper c ≡ true → test c ≡ true) → every test (put cs c) ≡ true
unfolding put proper
every_put test cs c h k =
    cond_both (stays c) cs (cond (goes_up c) (without_last cs) (cs ++ c ∷ [])) (λ ds. every test ds ≡ true) (λ _. h)
    (λ s. cond_both (goes_up c) (without_last cs) (cs ++ c ∷ []) (λ ds. every test ds ≡ true)
    (λ _. every_without_last test cs h)
    (λ u. every_push test cs c h (k (not_from_false _ (or_from _ _ s u)))))

module _ (p c : List ℕ) (h : normal p ≡ true) (k : plain c ≡ true) where
  pub components_put : components (written (put (components p) c)) ≡ put (components p) c
  components_put = components_written _ (every_put proper (components p) c (normal_proper p h) (λ e. e)) (every_put plain (components p) c (plain_components p) (λ _. k))

  pub normal_put : normal (written (put (components p) c)) ≡ true
  normal_put = normal_written _ (every_put proper (components p) c (normal_proper p h) (λ e. e)) (every_put plain (components p) c (plain_components p) (λ _. k))
