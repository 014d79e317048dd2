-- What stands behind the first slash tells whether the path is normal.
use Rattle.std.proofs.Common.{◌≡◌, ℕ, Bool, true, List, Decides, refl, sym, ◌∙◌}
use Rattle.std.proofs.lemmas.Bool.{eqb-true, eq-eqb, true≢false}
use Rattle.std.proofs.lemmas.Bool.Decides.{Decides-at}
use Rattle.path.specs.Path.{normal, written, components, IsWritten}
use Rattle.path.proofs.Normality.{normal_decides, written_components, slash_before, normal_without_slash, normal_slash_alone, normal_slash_pieces}
use Rattle.path.proofs.components.is_normal.Goals as goal

-- all that the result tells follows from this, that it is whether the path is normal
told : (p : List ℕ) (r : Bool) → r ≡ normal p →
    record { by_components : r ≡ normal p; written_again : r ≡ true → written (components p) ≡ p; normal_is_written_components : Decides r (IsWritten p) }
told p r e = record {
  by_components = e;
  written_again = λ t. written_components p (sym e ∙ t);
  normal_is_written_components = Decides-at r (normal p) e (normal_decides p);
}

pub returns-then-is_empty : goal.returns-then-is_empty
returns-then-is_empty c =
    let found = c.in-Some.ensures.cases in
    told c.args.path.now _ (c.is_empty.ensures ∙ normal_slash_alone _ _ _ (slash_before _ _ found.0 found.1) refl (eqb-true _ 0 (sym c.is_empty.ensures ∙ c.if-is_empty.true)))

pub returns-else-is_empty : goal.returns-else-is_empty
returns-else-is_empty c =
    let found = c.in-Some.ensures.cases in
    told c.args.path.now _ (normal_slash_pieces _ _ _ _ (slash_before _ _ found.0 found.1) refl (λ z. true≢false (sym (eq-eqb _ 0 z) ∙ sym c.is_empty.ensures ∙ c.if-is_empty.false)) c.has_proper_pieces.ensures)

pub returns-in-None : goal.returns-in-None
returns-in-None c = told c.args.path.now _ (normal_without_slash _ c.in-None.ensures.cases)
