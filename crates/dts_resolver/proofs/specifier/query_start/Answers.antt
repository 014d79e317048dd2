use Rattle.std.proofs.Common.{◌≡◌, ℕ, ◌<◌, get_or, Some, None, length, ◌∙◌, rules}
use Rattle.std.proofs.iter.runs.Made.{chains}
use Rattle.dts_resolver.proofs.SpecifierParts.{query_found}
use Rattle.dts_resolver.proofs.specifier.query_start.Goals as goal

pub returns : goal.returns
returns c =
    let text = c.args.text.now in
    let here : (i : ℕ) → c.position.result ≡ Some i → (i < length text) × (get_or text i 0 ≡ 63) = λ i e. (search (rules, chains), search (rules, chains)) in
    let before : (i : ℕ) → c.position.result ≡ Some i → (k : ℕ) → k < i → get_or text k 0 ≡ 63 → ⊥ = λ i e. search (rules, chains) in
    let none : c.position.result ≡ None → (k : ℕ) → k < length text → get_or text k 0 ≡ 63 → ⊥ = λ e. search (rules, chains) in
    record { after_the_path = c.unwrap_or.ensures ∙ query_found text c.position.result here before none }
