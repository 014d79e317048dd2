-- Elements that were taken out of a list, and what is held and free afterwards.
use Rattle.std.proofs.Common.{◌≡◌, ℕ, ◌+◌, ◌-◌, ◌≤◌, zero, suc, min, List, [], ◌∷◌, ◌++◌, length, take, drop, set, sym, refl, ap, ◌∙◌, arith}
use borrow.Rule.Slice.PartMut.{mid_of, post_of, put_mid}
use Rattle.std.proofs.lemmas.List.{append_assoc, take_at, drop_at, take-take, drop-drop, drop-take, length-append, length-drop, length-take-le}

module _ {X : Type 0} (xs last part : List X) (a n c k : ℕ) (inside : n ≤ length xs) (room : a + c ≤ n) (count : k ≡ n - a) (turned : part ≡ drop c (mid_of a k xs) ++ take c (mid_of a k xs)) (put : last ≡ put_mid a k xs part) where
  abbrev mid : List X
  mid = drop a (take n xs)

  whole : a + k ≡ n
  whole = omega (arith, count)

  middle : mid_of a k xs ≡ mid
  middle = sym (drop-take a k xs) ∙ ap (λ m. drop a (take m xs)) whole

  behind : post_of a k xs ≡ drop n xs
  behind = drop-drop k a xs ∙ ap (λ m. drop m xs) whole

  front : take a xs ≡ take a (take n xs)
  front = sym (take-take a n xs (omega arith))

  abbrev kept : List X
  kept = take a (take n xs) ++ drop (a + c) (take n xs)

  parts : last ≡ kept ++ (take c mid ++ drop n xs)
  parts =
      put ∙ ap (λ ys. ys ++ (part ++ post_of a k xs)) front ∙ ap (λ ys. take a (take n xs) ++ (part ++ ys)) behind
      ∙ ap (λ ys. take a (take n xs) ++ (ys ++ drop n xs)) (turned ∙ ap (λ m. drop c m ++ take c m) middle ∙ ap (λ ys. ys ++ take c mid) (drop-drop c a (take n xs)))
      ∙ ap (λ ys. take a (take n xs) ++ ys) (append_assoc (drop (a + c) (take n xs)) (take c mid) (drop n xs))
      ∙ sym (append_assoc (take a (take n xs)) (drop (a + c) (take n xs)) (take c mid ++ drop n xs))

  size : length kept ≡ n - c
  size = omega (arith, length-append (take a (take n xs)) (drop (a + c) (take n xs)), length-drop (a + c) (take n xs), length-take-le n xs inside, length-take-le a (take n xs) (omega (arith, length-take-le n xs inside)))

  pub held_without : take (n - c) last ≡ kept
  held_without = ap (take (n - c)) parts ∙ take_at kept (take c mid ++ drop n xs) (n - c) size

  pub free_behind : drop (n - c) last ≡ take c mid ++ drop n xs
  free_behind = ap (drop (n - c)) parts ∙ drop_at kept (take c mid ++ drop n xs) (n - c) size

-- places behind the end are as the end
pub take_min : {X : Type 0} (a : ℕ) (xs : List X) → take (min a (length xs)) xs ≡ take a xs
take_min zero xs = let e : min 0 (length xs) ≡ 0 = omega arith in ap (λ n. take n xs) e
take_min (suc a) [] = let e : min (suc a) 0 ≡ 0 = omega arith in ap (λ n. take n []) e
take_min (suc a) (x ∷ xs) = let e : min (suc a) (length (x ∷ xs)) ≡ suc (min a (length xs)) = omega arith in ap (λ n. take n (x ∷ xs)) e ∙ ap (λ ys. x ∷ ys) (take_min a xs)

pub drop_min : {X : Type 0} (a : ℕ) (xs : List X) → drop (min a (length xs)) xs ≡ drop a xs
drop_min zero xs = let e : min 0 (length xs) ≡ 0 = omega arith in ap (λ n. drop n xs) e
drop_min (suc a) [] = let e : min (suc a) 0 ≡ 0 = omega arith in ap (λ n. drop n []) e
drop_min (suc a) (x ∷ xs) = let e : min (suc a) (length (x ∷ xs)) ≡ suc (min a (length xs)) = omega arith in ap (λ n. drop n (x ∷ xs)) e ∙ drop_min a xs

pub take_set : {X : Type 0} (n i : ℕ) (xs : List X) (x : X) → take n (set xs i x) ≡ set (take n xs) i x
take_set zero i xs x = refl
take_set (suc n) i [] x = refl
take_set (suc n) zero (y ∷ xs) x = refl
take_set (suc n) (suc i) (y ∷ xs) x = ap (λ ys. y ∷ ys) (take_set n i xs x)
