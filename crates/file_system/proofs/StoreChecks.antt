-- The answer to an addition, check by check, and what an accepted one has passed.
use Rattle.std.proofs.Common.{◌≡◌, ℕ, ◌≤◌, Bool, true, false, cond, not, ◌&&◌, leb, [], ◌∷◌, length, Ok, Err, Result, sym, refl, ap, ◌∙◌, arith}
use Rattle.path.specs.Path.{normal, has_parent, parent_of}
use Rattle.std.specs.Str.{bytes_eq}
use Rattle.std.proofs.lemmas.Bool.{and_parts, not-true, leb-true}
use Rattle.file_system.specs.declared.store.Refusal.{Refusal}
use Rattle.file_system.specs.declared.store.Refusal.TheVariants.{NotAdmissible, NoParent, Conflict, NoSpace}
use Rattle.file_system.specs.Tree.{Path, Tree, is_directory, is_nothing, storable}
use Rattle.file_system.specs.Store.{has_place, addition}

-- the answer by the outcome of each check
abbrev pub answer : Bool → Bool → Bool → Bool → Result (Unit {0}) Refusal
answer admissible place free space = cond admissible (cond place (cond free (cond space (Ok tt) (Err NoSpace)) (Err Conflict)) (Err NoParent)) (Err NotAdmissible)

pub addition_is : (t : Tree) (space : Path → ℕ → Bool) (p : Path) (n : ℕ) (a b c d : Bool) → (storable p && leb n 65535) ≡ a → has_place t p ≡ b → is_nothing (t p) ≡ c → space p n ≡ d → addition t space p n ≡ answer a b c d
unfolding addition
addition_is t space p n a b c d ea eb ec ed =
    ap (λ x. answer x (has_place t p) (is_nothing (t p)) (space p n)) ea
    ∙ ap (λ x. answer a x (is_nothing (t p)) (space p n)) eb
    ∙ ap (λ x. answer a b x (space p n)) ec
    ∙ ap (answer a b c) ed

pub place_is : (t : Tree) (p : Path) (a b : Bool) → has_parent p ≡ a → is_directory (t (parent_of p)) ≡ b → has_place t p ≡ (a && b)
unfolding has_place
place_is t p a b ea eb = ap (λ x. x && is_directory (t (parent_of p))) ea ∙ ap (λ x. a && x) eb

pub storable_is : (p : Path) (a b : Bool) → normal p ≡ a → leb (length p) 1024 ≡ b → storable p ≡ (a && b)
unfolding storable
storable_is p a b ea eb = ap (λ x. x && leb (length p) 1024) ea ∙ ap (λ x. a && x) eb

all_passed : (a b c d : Bool) → answer a b c d ≡ Ok tt → (a ≡ true) × (b ≡ true) × (c ≡ true) × (d ≡ true)
all_passed true true true true e = (refl, refl, refl, refl)
all_passed true true true false e = let z : ◌≡◌ {A = ℕ} 0 1 = cc in absurd (omega arith)
all_passed true true false d e = let z : ◌≡◌ {A = ℕ} 0 1 = cc in absurd (omega arith)
all_passed true false c d e = let z : ◌≡◌ {A = ℕ} 0 1 = cc in absurd (omega arith)
all_passed false b c d e = let z : ◌≡◌ {A = ℕ} 0 1 = cc in absurd (omega arith)

pub not_the_root : (p : Path) → has_parent p ≡ true → bytes_eq p (47 ∷ []) ≡ false
unfolding has_parent
not_the_root p h = not-true (bytes_eq p (47 ∷ [])) (and_parts (normal p) (not (bytes_eq p (47 ∷ []))) h).1

-- what an accepted addition has passed
pub record Passed (t : Tree) (space : Path → ℕ → Bool) (p : Path) (n : ℕ) : Type 0 where
  pub can_store : storable p ≡ true
  pub not_root : bytes_eq p (47 ∷ []) ≡ false
  pub empty : is_nothing (t p) ≡ true
  pub has_space : space p n ≡ true

pub accepted : (t : Tree) (space : Path → ℕ → Bool) (p : Path) (n : ℕ) → addition t space p n ≡ Ok tt → Passed t space p n
unfolding has_place
accepted t space p n e =
    let all = all_passed _ _ _ _ (sym (addition_is t space p n _ _ _ _ refl refl refl refl) ∙ e) in
    record {
      can_store = (and_parts (storable p) (leb n 65535) all.0).0;
      not_root = not_the_root p (and_parts (has_parent p) (is_directory (t (parent_of p))) all.1).0;
      empty = all.2;
      has_space = all.3;
    }

pub storable_short : (p : Path) → storable p ≡ true → length p ≤ 1024
unfolding storable
storable_short p h = leb-true (length p) 1024 (and_parts (normal p) (leb (length p) 1024) h).1

-- a path in a directory is not `/`
pub placed_not_root : (t : Tree) (p : Path) → has_place t p ≡ true → bytes_eq p (47 ∷ []) ≡ false
unfolding has_place
placed_not_root t p h = not_the_root p (and_parts (has_parent p) (is_directory (t (parent_of p))) h).0
