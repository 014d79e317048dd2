-- Laws of masks of three bits, each by a test of all of them.
use Rattle.std.proofs.Common.{◌≡◌, ℕ, zero, suc, ◌-◌, ◌<◌, Bool, true, ◌&&◌, eqb, ltb, refl, ap, ◌∙◌, ⊎_elim, arith}
use lib.Bits.{bit_and, bit_or}
use Rattle.std.proofs.lemmas.Bool.{and_parts, cases_eq, eqb-true, ltb-true}

-- a test that holds of each number below n
abbrev every_below : ℕ → (ℕ → Bool) → Bool
every_below zero f = true
every_below (suc n) f = f n && every_below n f

at_below : (n : ℕ) (f : ℕ → Bool) (k : ℕ) → every_below n f ≡ true → k < n → f k ≡ true
at_below zero f k h l = absurd (omega arith)
at_below (suc n) f k h l =
    let both = and_parts (f n) (every_below n f) h in
    ⊎_elim (λ e. ap f e ∙ both.0) (λ ne. at_below n f k both.1 (omega arith)) (cases_eq k n)

abbrev every_two : (ℕ → ℕ → Bool) → Bool
every_two f = every_below 8 (λ a. every_below 8 (f a))

at_two : (f : ℕ → ℕ → Bool) (a b : ℕ) → every_two f ≡ true → a < 8 → b < 8 → f a b ≡ true
at_two f a b h l m = at_below 8 (f a) b (at_below 8 (λ x. every_below 8 (f x)) a h l) m

-- what is in one mask and not in another: `&` with the other's complement in a byte
pub less_small : (a b : ℕ) → a < 8 → b < 8 → bit_and a (255 - b) < 8
less_small a b l m = ltb-true _ _ (at_two (λ x y. ltb (bit_and x (255 - y)) 8) a b refl l m)

pub less_apart : (a b : ℕ) → a < 8 → b < 8 → bit_and (bit_and a (255 - b)) b ≡ 0
less_apart a b l m = eqb-true _ _ (at_two (λ x y. eqb (bit_and (bit_and x (255 - y)) y) 0) a b refl l m)

pub less_joined : (a b : ℕ) → a < 8 → b < 8 → bit_or (bit_and a (255 - b)) (bit_and a b) ≡ a
less_joined a b l m = eqb-true _ _ (at_two (λ x y. eqb (bit_or (bit_and x (255 - y)) (bit_and x y)) x) a b refl l m)
