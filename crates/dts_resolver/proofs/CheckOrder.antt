-- The checks of a lookup, by the outcome of each test.
use Rattle.std.proofs.Common.{◌≡◌, ℕ, ◌≤◌, Bool, true, false, cond, not, ◌&&◌, eqb, leb, List, [], ◌∷◌, length, get_or, ◌<◌, Some, None, Option, MatchOption, sym, refl, ap, ◌∙◌, inl, inr, arith}
use Rattle.std.proofs.lemmas.Bool.{ne_eqb, eq-eqb, eqb-true, both_ways, cases_Bool, and_from, and_left, and_right, and_parts, leb-true}
use Rattle.std.specs.Borrow.{Bor}
use Rattle.std.specs.Str.{bytes_eq}
use Rattle.std.proofs.lemmas.Slice.Eq.{bytes_eq-Decides}
use Rattle.path.specs.Path.{normal, components, every, has_parent, parent_of}
use Rattle.file_system.specs.Tree.{Path}
use Rattle.search.specs.declared.error.Refusal.{Refusal}
use Rattle.search.specs.declared.error.Refusal.TheVariants.{ShortMemory, ContainingPath, SpecifierText, EmptySpecifier, AbsolutePath, PackageImport}
use Rattle.search.specs.declared.TheConstants.{PATH_SIZE}
use Rattle.dts_resolver.specs.declared.TheConstants.{WORK_SIZE, IMPORT_SIZE}
use Rattle.dts_resolver.specs.Specifier.{begins, is_empty}
use Rattle.dts_resolver.specs.Checks.{utf8, is_text, part_checks, text_checks, given_checks, directory_of}

abbrev part_answer : Bool → Bool → Bool → Option Refusal
part_answer empty crooked import = cond empty (Some EmptySpecifier) (cond crooked (Some AbsolutePath) (cond import (Some PackageImport) None))

pub part_is : (part : List ℕ) (a b c : Bool) → is_empty part ≡ a → (begins 47 part && not (normal part)) ≡ b → begins 35 part ≡ c → part_checks part ≡ cond a (Some EmptySpecifier) (cond b (Some AbsolutePath) (cond c (Some PackageImport) None))
unfolding part_checks
part_is part a b c ea eb ec =
    ap (λ x. part_answer x (begins 47 part && not (normal part)) (begins 35 part)) ea
    ∙ ap (λ x. part_answer a x (begins 35 part)) eb
    ∙ ap (part_answer a b) ec

-- a path part without bytes, and one by its first byte
pub no_part : (part : List ℕ) → length part < 1 → part_checks part ≡ Some EmptySpecifier
unfolding part_checks
no_part [] l = refl
no_part (b ∷ bs) l = absurd (omega arith)

pub first_slash : (part : List ℕ) → 1 ≤ length part → get_or part 0 0 ≡ 47 → normal part ≡ false → part_checks part ≡ Some AbsolutePath
first_slash [] l e n = absurd (omega arith)
first_slash (b ∷ bs) l e n = part_is (b ∷ bs) false true _ refl (and_from (eqb b 47) (not (normal (b ∷ bs))) (eq-eqb b 47 e) (ap not n)) refl

pub first_hash : (part : List ℕ) → 1 ≤ length part → get_or part 0 0 ≡ 35 → part_checks part ≡ Some PackageImport
first_hash [] l e = absurd (omega arith)
first_hash (b ∷ bs) l e = part_is (b ∷ bs) false false true refl (and_left (eqb b 47) (not (normal (b ∷ bs))) (ne_eqb b 47 (λ s. omega arith))) (eq-eqb b 35 e)

pub first_other : (part : List ℕ) → 1 ≤ length part → (get_or part 0 0 ≡ 47 → normal part ≡ true) → (get_or part 0 0 ≡ 35 → ⊥) → part_checks part ≡ None
first_other [] l e n = absurd (omega arith)
first_other (b ∷ bs) l e n = elim (cases_Bool (eqb b 47)) [
  | inl is_slash ↦ part_is (b ∷ bs) false false false refl (and_right (eqb b 47) (not (normal (b ∷ bs))) (ap not (e (eqb-true b 47 is_slash)))) (ne_eqb b 35 n)
  | inr no_slash ↦ part_is (b ∷ bs) false false false refl (and_left (eqb b 47) (not (normal (b ∷ bs))) no_slash) (ne_eqb b 35 n)
]

abbrev text_answer : Bool → Bool → Option Refusal → Option Refusal
text_answer containing specifier next = cond containing (cond specifier next (Some SpecifierText)) (Some ContainingPath)

pub texts_are : (containing : Path) (specifier : List ℕ) (next : Option Refusal) (a b : Bool) → (is_text containing && normal containing) ≡ a → is_text specifier ≡ b → text_checks containing specifier next ≡ cond a (cond b next (Some SpecifierText)) (Some ContainingPath)
unfolding text_checks
texts_are containing specifier next a b ea eb = ap (λ x. text_answer x (is_text specifier) next) ea ∙ ap (λ x. text_answer a x next) eb

pub text_is : (text : List ℕ) (a : Bool) → a ≡ utf8 text → is_text text ≡ (a && leb (length text) IMPORT_SIZE)
text_is text a e = ap (λ x. x && leb (length text) IMPORT_SIZE) (sym e)

-- the directory of a containing path, which is tested once
module _ (p : Path) (text : is_text p ≡ true) where
  pub directory_of_root : bytes_eq p (47 ∷ []) ≡ true → ((is_text p && normal p) ≡ true) × (p ≡ directory_of p)
  unfolding directory_of has_parent normal components every
  directory_of_root e =
      let root = (bytes_eq-Decides p (47 ∷ [])).0 e in
      (and_from (is_text p) (normal p) text (ap normal root), ap (λ b. cond b (parent_of p) p) (sym (and_right (normal p) (not (bytes_eq p (47 ∷ []))) (ap not e))))

  pub directory_by_parent : (r : Option (Bor (List ℕ))) → bytes_eq p (47 ∷ []) ≡ false → MatchOption r (has_parent p ≡ false) (λ s. (has_parent p ≡ true) × (s.now ≡ parent_of p)) → MatchOption r ((is_text p && normal p) ≡ false) (λ d. ((is_text p && normal p) ≡ true) × (d.now ≡ directory_of p))
  unfolding directory_of has_parent
  directory_by_parent None e h = and_right (is_text p) (normal p) (elim (cases_Bool (normal p)) [
    | inl is ↦ absurd (both_ways (normal p && not (bytes_eq p (47 ∷ []))) h (and_from (normal p) (not (bytes_eq p (47 ∷ []))) is (ap not e)))
    | inr other ↦ other
  ])
  directory_by_parent (Some d) e h = (and_from (is_text p) (normal p) text (and_parts (normal p) (not (bytes_eq p (47 ∷ []))) h.0).0, h.1 ∙ ap (λ b. cond b (parent_of p) p) (sym h.0))

-- the checks of memory and texts, by the outcome of each test
abbrev given_answer : Bool → Bool → Bool → Option Refusal → Option Refusal
given_answer memory containing specifier next = cond memory (cond containing (cond specifier next (Some SpecifierText)) (Some ContainingPath)) (Some ShortMemory)

passed_all : (a b c : Bool) → None ≡ given_answer a b c None → (a ≡ true) × (b ≡ true) × (c ≡ true)
passed_all true true true e = (refl, refl, refl)
passed_all true true false e = let z : ◌≡◌ {A = ℕ} 0 1 = cc in absurd (omega arith)
passed_all true false c e = let z : ◌≡◌ {A = ℕ} 0 1 = cc in absurd (omega arith)
passed_all false b c e = let z : ◌≡◌ {A = ℕ} 0 1 = cc in absurd (omega arith)

refused_anyway : (a b c : Bool) (e : Refusal) (next : Option Refusal) → Some e ≡ given_answer a b c None → given_answer a b c next ≡ Some e
refused_anyway true true true e next h = let z : ◌≡◌ {A = ℕ} 0 1 = cc in absurd (omega arith)
refused_anyway true true false e next h = sym h
refused_anyway true false c e next h = sym h
refused_anyway false b c e next h = sym h

module _ (p w : ℕ) (containing : Path) (specifier : List ℕ) where
  pub given_is : (next : Option Refusal) (a : Bool) → (leb PATH_SIZE p && leb WORK_SIZE w) ≡ a → given_checks p w containing specifier next ≡ cond a (text_checks containing specifier next) (Some ShortMemory)
  unfolding given_checks
  given_is next a e = ap (λ x. cond x (text_checks containing specifier next) (Some ShortMemory)) e

  all_tests : (next : Option Refusal) → given_checks p w containing specifier next ≡ given_answer (leb PATH_SIZE p && leb WORK_SIZE w) (is_text containing && normal containing) (is_text specifier) next
  unfolding given_checks text_checks
  all_tests next = refl

  pub given_refused : (e : Refusal) (next : Option Refusal) → Some e ≡ given_checks p w containing specifier None → given_checks p w containing specifier next ≡ Some e
  given_refused e next h = all_tests next ∙ refused_anyway (leb PATH_SIZE p && leb WORK_SIZE w) (is_text containing && normal containing) (is_text specifier) e next (h ∙ all_tests None)

  module _ (h : None ≡ given_checks p w containing specifier None) where
    tests : ((leb PATH_SIZE p && leb WORK_SIZE w) ≡ true) × ((is_text containing && normal containing) ≡ true) × (is_text specifier ≡ true)
    tests = passed_all (leb PATH_SIZE p && leb WORK_SIZE w) (is_text containing && normal containing) (is_text specifier) (h ∙ all_tests None)

    pub given_passed : (next : Option Refusal) → given_checks p w containing specifier next ≡ next
    given_passed next =
        all_tests next
        ∙ ap (λ x. given_answer x (is_text containing && normal containing) (is_text specifier) next) tests.0
        ∙ ap (λ x. given_answer true x (is_text specifier) next) tests.1
        ∙ ap (λ x. given_answer true true x next) tests.2

    pub path_is_enough : PATH_SIZE ≤ p
    path_is_enough = leb-true PATH_SIZE p (and_parts (leb PATH_SIZE p) (leb WORK_SIZE w) tests.0).0

    pub work_is_enough : WORK_SIZE ≤ w
    work_is_enough = leb-true WORK_SIZE w (and_parts (leb PATH_SIZE p) (leb WORK_SIZE w) tests.0).1

    pub specifier_is_short : length specifier ≤ IMPORT_SIZE
    specifier_is_short = leb-true (length specifier) IMPORT_SIZE (and_parts (utf8 specifier) (leb (length specifier) IMPORT_SIZE) tests.2).1
