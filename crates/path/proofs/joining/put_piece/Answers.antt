-- Each kind of piece does to the path what its definition says.
use Rattle.std.proofs.Common.{ℕ, ◌≡◌, ◌<◌, List, length, take, OnOk, OnErr, sym, ap, ◌∙◌, subst}
use Rattle.list.specs.Held.{held, capacity}
use Rattle.path.specs.Path.{written, components, without_last}
use Rattle.path.proofs.Normality.{written_components}
use Rattle.path.proofs.Walking.{put_same, put_up, put_last}
use Rattle.path.proofs.joining.put_piece.Goals as goal

pub returns-then-is_same-clause-by_components : goal.returns-then-is_same-clause-by_components
returns-then-is_same-clause-by_components g c = sym (ap written (put_same _ _ (sym c.if-is_same.ensures)) ∙ written_components _ c.requires)

pub returns-then-is_up-clause-by_components : goal.returns-then-is_up-clause-by_components
returns-then-is_up-clause-by_components g c =
    c.truncate.ensures.first_elements ∙ ap (take c.length_above.result) (sym c.as_slice.ensures.elements) ∙ c.length_above.ensures.front
    ∙ ap (λ p. written (without_last (components p))) c.as_slice.ensures.elements
    ∙ ap written (sym (put_up _ _ (sym c.if-is_same.ensures) (sym c.if-is_up.ensures)))

pub returns-clause-by_components : goal.returns-clause-by_components
returns-clause-by_components g c =
    subst (λ (cs : List (List ℕ)). OnOk c.push.result (held c.push.new.path ≡ written cs)) (sym (put_last _ _ (sym c.if-is_same.ensures) (sym c.if-is_up.ensures))) c.push.ensures.by_components

pub returns-clause-over : goal.returns-clause-over
returns-clause-over g c =
    subst (λ (cs : List (List ℕ)). OnErr c.push.result (capacity c.args.path.now < length (written cs))) (sym (put_last _ _ (sym c.if-is_same.ensures) (sym c.if-is_up.ensures))) c.push.ensures.over
