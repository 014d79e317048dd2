-- Going from place to place: how far it can go on, and what one place more tells.
use Rattle.std.proofs.Common.{◌≡◌, ℕ, Bool, suc, ◌-◌, ◌<◌, ◌≤◌, true, false, ⊎_elim, List, length, get_or, is_some, IfSome, MatchOption, Some, None, Option, refl, ap, ◌∙◌, arith}
use Rattle.std.specs.Bool.{then_some}
use Rattle.std.proofs.lemmas.Bool.{both_ways}
use Rattle.std.proofs.lemmas.List.{get_or_past}
use Rattle.std.proofs.lemmas.Bool.{cases_lt}
use Rattle.json_text.specs.declared.find.Kind.TheVariants as of
use Rattle.json_text.specs.Kinds.{kind_by}
use Rattle.json_text.specs.Standing.{OpensTo}
use Rattle.package_json.specs.Walking.{FirstAnswer, over, here, later}

-- how many places there are from one on, below a limit
abbrev pub ahead : ℕ → Option ℕ → ℕ
ahead limit None = 0
ahead limit (Some place) = suc (limit - place)

further : (low limit at : ℕ) (n : Option ℕ) → low < at → IfSome n (λ m. (at < m) × (m ≤ limit)) → IfSome n (λ m. (low < m) × (m ≤ limit))
further low limit at None h k = tt
further low limit at (Some m) h k = (omega (arith, h, k.0), k.1)

itself : (low limit at x : ℕ) → x ≡ at → (low < at) × (at ≤ limit) → (low < x) × (x ≤ limit)
itself low limit at x e h = rw e h

pub same_place : (at low limit : ℕ) (r : Option ℕ) → IfSome r (λ x. x ≡ at) → (low < at) × (at ≤ limit) → IfSome r (λ x. (low < x) × (x ≤ limit))
same_place at low limit None e h = tt
same_place at low limit (Some x) e h = rw e h

-- a test tells the place itself, if any
pub if_itself : (b : Bool) (at : ℕ) → IfSome (then_some b at) (λ x. x ≡ at)
if_itself true at = refl
if_itself false at = tt

module _ {next answer : ℕ → Option ℕ → Type 0} where
  pub stops : (at : Option ℕ) (place : ℕ) (found : Option ℕ) → at ≡ Some place → answer place found → is_some found ≡ true → FirstAnswer next answer at found
  stops at place None e a h = absurd (both_ways false refl h)
  stops at place (Some x) e a h = rw e (here a)

  pub goes_on : (at : Option ℕ) (place : ℕ) (found n r : Option ℕ) → at ≡ Some place → answer place found → is_some found ≡ false → next place n → FirstAnswer next answer n r → FirstAnswer next answer at r
  goes_on at place None n r e a h step rest = rw e (later a step rest)
  goes_on at place (Some x) n r e a h step rest = absurd (both_ways true h refl)

  -- Where each place leads further on and answers with itself, the answer lies no further back than the first place.
  pub not_back : (limit : ℕ) → ((at : ℕ) (n : Option ℕ) → next at n → IfSome n (λ m. (at < m) × (m ≤ limit))) → ((at : ℕ) (r : Option ℕ) → answer at r → IfSome r (λ x. x ≡ at)) →
      {from r : Option ℕ} → FirstAnswer next answer from r → (low : ℕ) → IfSome from (λ at. (low < at) × (at ≤ limit)) → IfSome r (λ at. (low < at) × (at ≤ limit))
  not_back limit steps tells over low h = tt
  not_back limit steps tells (here {at = at} {x = x} a) low h = itself low limit at x (tells at (Some x) a) h
  not_back limit steps tells (later {at = at} {n = n} a step f) low h = not_back limit steps tells f low (further low limit at n h.0 (steps at n step))

  -- Where each place leads further on and answers with one that lies further on, the answer lies further on than the first place.
  pub lies_further : (limit : ℕ) → ((at : ℕ) (n : Option ℕ) → next at n → IfSome n (λ m. (at < m) × (m ≤ limit))) → ((at : ℕ) (r : Option ℕ) → answer at r → IfSome r (λ x. (at < x) × (x ≤ limit))) →
      {from r : Option ℕ} → FirstAnswer next answer from r → (low : ℕ) → IfSome from (λ at. (low < at) × (at ≤ limit)) → IfSome r (λ at. (low < at) × (at ≤ limit))
  lies_further limit steps tells over low h = tt
  lies_further limit steps tells (here {at = at} {x = x} a) low h = let q = tells at (Some x) a in (omega (arith, h.0, q.0), q.1)
  lies_further limit steps tells (later {at = at} {n = n} a step f) low h = lies_further limit steps tells f low (further low limit at n h.0 (steps at n step))

pub from_further : (low high limit : ℕ) (r : Option ℕ) → low < high → IfSome r (λ at. (high < at) × (at ≤ limit)) → IfSome r (λ at. (low < at) × (at ≤ limit))
from_further low high limit None l h = tt
from_further low high limit (Some at) l h = (omega (arith, h.0), h.1)

pub not_before : (low limit : ℕ) (r : Option ℕ) → IfSome r (λ at. (low < at) × (at ≤ limit)) → IfSome r (λ at. (low ≤ at) × (at ≤ limit))
not_before low limit None h = tt
not_before low limit (Some at) h = (omega (arith, h.0), h.1)

-- what stands behind an opening bracket lies further on, inside the text
pub opened_inside : (opening closing : ℕ) (t : List ℕ) (at : ℕ) (r : Option ℕ) → MatchOption r ((place : ℕ) → OpensTo opening closing t at place → ⊥) (λ place. OpensTo opening closing t at place) → IfSome r (λ place. (at < place) × (place ≤ length t))
opened_inside x y t at None h = tt
opened_inside x y t at (Some place) h = (omega (arith, h.behind_bracket.not_before), h.behind_bracket.inside)

pub opens_at : (opening closing : ℕ) (t : List ℕ) (at : ℕ) (r : Option ℕ) → MatchOption r ((place : ℕ) → OpensTo opening closing t at place → ⊥) (λ place. OpensTo opening closing t at place) → (place : ℕ) → r ≡ Some place → OpensTo opening closing t at place
opens_at x y t at r h place e = rw e at h

-- a string begins inside the text
pub string_inside : (t : List ℕ) (at : ℕ) → of.String ≡ kind_by (get_or t at 256) → at ≤ length t
string_inside t at h =
    ⊎_elim (λ (l : length t < at). let e : of.String ≡ of.Plain = h ∙ ap kind_by (get_or_past t at 256 (omega arith)) in absurd (cc)) (λ (l : at ≤ length t). l) (cases_lt (length t) at)
