-- A long piece is proper; of a short one, each of the two tests says what its definition says.
use Rattle.std.proofs.Common.{not, ◌||◌, take, sym, ap, ◌∙◌}
use Rattle.std.proofs.lemmas.Bool.{or_left, lt-ltb}
use Rattle.path.specs.Path.{proper, goes_up}
use Rattle.path.proofs.PieceKinds.{long_proper}
use Rattle.path.proofs.pieces.is_proper.Goals as goal
use Rattle.path.proofs.pieces.is_proper.Goals.{then-is_same, else-is_same}

pub returns-then-bytes_left-gt-LONGEST_IMPROPER : goal.returns-then-bytes_left-gt-LONGEST_IMPROPER
returns-then-bytes_left-gt-LONGEST_IMPROPER g c =
    let long = c.if-bytes_left-gt-LONGEST_IMPROPER.true in
    lt-ltb 2 c.bytes_left.result long ∙ sym (long_proper _ _ c.bytes_left.ensures.number_of_bytes long)

pub returns-after-is_same : goal.returns-after-is_same
unfolding proper
returns-after-is_same g c =
    ap not (elim c.if-is_same.branch [
      | then-is_same w ↦ w.result-is ∙ w.if-is_same.true ∙ sym (or_left _ _ (sym w.if-is_same.ensures))
      | else-is_same w ↦ w.result-is ∙ w.is_up.ensures ∙ ap (λ t. t || goes_up (take c.args.piece.len (g.B.Bytes.to_come c.args.piece.bytes))) w.if-is_same.ensures
    ])
