use Rattle.std.proofs.Common.{◌≡◌, ℕ, ◌+◌, false, ◌<◌, get_or, Some, None, length, rules, MatchOption}
use Rattle.std.proofs.iter.runs.Made.{chains}
use Rattle.dts_resolver.proofs.SpecifierParts.{starts, fragment_found}
use Rattle.dts_resolver.proofs.specifier.fragment_start.Goals as goal

pub returns : goal.returns
returns c =
    let text = c.args.text.now in
    let rest = c.after.result.now in
    let r = c.position.result in
    let inside : (i : ℕ) → r ≡ Some i → i < length rest = λ i e. search (rules, chains) in
    let here : (i : ℕ) → r ≡ Some i → get_or rest i 0 ≡ 35 = λ i e. search (rules, chains) in
    let other : (i : ℕ) → r ≡ Some i → get_or text i 0 ≡ 0 → ⊥ = λ i e. search (rules, chains) in
    let earlier : (i : ℕ) → r ≡ Some i → (k : ℕ) → k < i → starts (get_or text k 0) (get_or rest k 0) ≡ false = λ i e. search (rules, chains) in
    let none : r ≡ None → (k : ℕ) → k < length rest → starts (get_or text k 0) (get_or rest k 0) ≡ false = λ e. search (rules, chains) in
    let is : MatchOption r (c.map_or.result ≡ length text) (λ i. c.map_or.result ≡ i + 1) = search rules in
    record { after_the_rest = fragment_found text rest r c.map_or.result c.after.ensures.all_but_the_first (λ i e. (inside i e, (here i e, other i e))) earlier none is }
