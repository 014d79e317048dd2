-- The pieces that are left, from the path so far, come to what all of them come to.
use Rattle.std.proofs.Common.{◌≡◌, ◌+◌, ◌≤◌, true, length, take, drop}
use Rattle.std.specs.Option.{option_map}
use Rattle.list.specs.Held.{held, capacity}
use Rattle.path.specs.Path.{behind, components, normal, split, walk, pieces_left}
use Rattle.path.proofs.joining.put_pieces.Given as goal

abbrev pub invariant-loop-left : goal.invariant-loop-left
invariant-loop-left g l =
    let pieces = pieces_left (option_map (λ p. take p.len (g.B.Bytes.to_come p.bytes)) l.left) in
    let subpath = take l.fn.subpath.len (g.B.Bytes.to_come l.fn.subpath.bytes) in
    record {
      normal : normal (held l.path) ≡ true;
      same_walk : walk (capacity l.path) (components (held l.path)) pieces ≡ walk (capacity l.initial.path) (components (held l.initial.path)) (split subpath);
      short : l.path.len + length (behind pieces) ≤ l.initial.path.len + 1 + length subpath;
      kept : drop (l.initial.path.len + 1 + length subpath) l.path.items.now ≡ drop (l.initial.path.len + 1 + length subpath) l.initial.path.items.now;
      same_capacity : capacity l.path ≡ capacity l.initial.path;
      same_memory : l.path.items.ghost_name ≡ l.initial.path.items.ghost_name;
    }

abbrev pub decreases-loop-left : goal.decreases-loop-left
decreases-loop-left g l = length (behind (pieces_left (option_map (λ p. take p.len (g.B.Bytes.to_come p.bytes)) l.left)))
