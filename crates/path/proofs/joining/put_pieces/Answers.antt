-- Each turn puts the first of the pieces that are left on the path.
use Rattle.std.proofs.Common.{◌≡◌, ◌+◌, ◌≤◌, List, ℕ, ◌∷◌, length, take, sym, refl, ap, ◌∙◌, arith}
use Rattle.std.specs.Option.{option_map}
use Rattle.std.proofs.lemmas.Result.{err_from_is_err_and}
use Rattle.text.specs.declared.part.Part.{Part}
use Rattle.list.specs.Held.{held, capacity}
use Rattle.list.proofs.Held.{held_count}
use Rattle.path.specs.Path.{components, behind, walk, pieces_left}
use Rattle.path.proofs.Cutting.{behind_split, behind_first, plain_first}
use Rattle.path.proofs.PieceKinds.{piece_left, fewer_left, none_left}
use Rattle.path.proofs.Walking.{same_further, turn_over, turn_normal, turn_more, turned}
use Rattle.path.proofs.joining.put_pieces.Goals as goal

pub loop-left-init : goal.loop-left-init
loop-left-init g c = record {
  normal = c.requires;
  same_walk = refl;
  short = omega (arith, ap length (behind_split (take c.args.subpath.len (g.B.Bytes.to_come c.args.subpath.bytes))));
  kept = refl;
  same_capacity = refl;
  same_memory = refl;
}

pub loop-left-smaller : goal.loop-left-smaller
loop-left-smaller g c = fewer_left (λ p. take p.len (g.B.Bytes.to_come p.bytes)) _ _ _ _ c.in-Some.is c.cut-piece.ensures

pub loop-left-preserved : goal.loop-left-preserved
loop-left-preserved g c =
    let part : Part g.row.B.Denot g.B.Bytes g.B.Iterator → List ℕ = λ p. take p.len (g.B.Bytes.to_come p.bytes) in
    let piece = part c.cut-piece.result.0 in
    let rest = pieces_left (option_map part c.cut-piece.result.1) in
    let was = c.loop-left.invariant in
    let put = c.in_ok-put_piece.ensures in
    let next : pieces_left (option_map part c.loop-left.left) ≡ piece ∷ rest = piece_left part _ _ _ _ c.in-Some.is c.cut-piece.ensures in
    let plain = plain_first _ piece rest c.cut-piece.ensures in
    let path = held c.loop-left.path in
    let after = held c.put_piece.new.path in
    let limit = capacity c.loop-left.path in
    let fits : length after ≤ limit = omega (arith, held_count c.put_piece.new.path c.put_piece.new.path.within, c.put_piece.new.path.within, put.same_capacity) in
    record {
      normal = turn_normal limit path after piece rest was.normal plain put.by_components;
      same_walk =
          ap (λ n. walk n (components after) rest) put.same_capacity ∙ turn_more limit path after piece rest was.normal plain put.by_components fits
          ∙ ap (walk limit (components path)) (sym next) ∙ was.same_walk;
      short = omega (arith, put.longer_by_piece, was.short, ap (λ ss. length (behind ss)) next, behind_first piece rest);
      kept = same_further (c.loop-left.path.len + 1 + length piece) _ c.put_piece.new.path.items.now c.loop-left.path.items.now (omega (arith, was.short, ap (λ ss. length (behind ss)) next, behind_first piece rest)) put.kept_behind ∙ was.kept;
      same_capacity = put.same_capacity ∙ was.same_capacity;
      same_memory = put.same_memory ∙ was.same_memory;
    }

pub returns-in_err-put_piece-clause-over : goal.returns-in_err-put_piece-clause-over
returns-in_err-put_piece-clause-over g c =
    let part : Part g.row.B.Denot g.B.Bytes g.B.Iterator → List ℕ = λ p. take p.len (g.B.Bytes.to_come p.bytes) in
    let piece = part c.cut-piece.result.0 in
    let rest = pieces_left (option_map part c.cut-piece.result.1) in
    let was = c.loop-left.invariant in
    let next : pieces_left (option_map part c.loop-left.left) ≡ piece ∷ rest = piece_left part _ _ _ _ c.in-Some.is c.cut-piece.ensures in
    let path = held c.loop-left.path in
    let limit = capacity c.loop-left.path in
    let p = err_from_is_err_and c.from_residual.result c.from_residual.ensures.1 in
    rw p.1 (sym was.same_walk ∙ ap (walk limit (components path)) next ∙ turn_over limit path path piece rest was.normal c.in_err-put_piece.ensures.over)

pub returns-in_err-put_piece-clause-kept_behind : goal.returns-in_err-put_piece-clause-kept_behind
returns-in_err-put_piece-clause-kept_behind g c =
    let part : Part g.row.B.Denot g.B.Bytes g.B.Iterator → List ℕ = λ p. take p.len (g.B.Bytes.to_come p.bytes) in
    let piece = part c.cut-piece.result.0 in
    let rest = pieces_left (option_map part c.cut-piece.result.1) in
    let was = c.loop-left.invariant in
    let next : pieces_left (option_map part c.loop-left.left) ≡ piece ∷ rest = piece_left part _ _ _ _ c.in-Some.is c.cut-piece.ensures in
    same_further (c.loop-left.path.len + 1 + length piece) _ c.put_piece.new.path.items.now c.loop-left.path.items.now
    (omega (arith, was.short, ap (λ ss. length (behind ss)) next, behind_first piece rest)) c.put_piece.ensures.kept_behind ∙ was.kept

pub returns-clause-by_components : goal.returns-clause-by_components
returns-clause-by_components g c =
    let part : Part g.row.B.Denot g.B.Bytes g.B.Iterator → List ℕ = λ p. take p.len (g.B.Bytes.to_come p.bytes) in
    let was = c.loop-left.invariant in
    sym was.same_walk ∙ ap (walk (capacity c.loop-left.path) (components (held c.loop-left.path))) (none_left part c.loop-left.left c.loop-left.left c.in_default.is) ∙ turned _ _ was.normal
