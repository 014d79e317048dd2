use Rattle.std.proofs.Common.{◌≡◌, ◌≤◌, ◌+◌, Bool, true, false, ◌∷◌, ◌++◌, length, take, drop, map, is_some, sym, refl, ap, ◌∙◌, subst, arith}
use Rattle.std.specs.Bool.{then_some}
use Rattle.std.specs.Str.{bytes_eq}
use Rattle.std.proofs.lemmas.Bool.{both_ways}
use Rattle.std.proofs.lemmas.List.{drop_more, take-append-drop}
use Rattle.std.proofs.lemmas.Slice.Eq.{bytes_eq-Decides}
use Rattle.list.specs.Held.{held}
use Rattle.list.proofs.Held.{held_count}
use Rattle.table.specs.declared.entry.Entry.{Entry}
use Rattle.table.specs.Table.{path_of, size_of, sought}
use Rattle.table.specs.Sound.{Placed}
use Rattle.table.specs.Parts.{moved, closed}
use Rattle.table.proofs.TableOrder.{sought_past, sought_there}
use Rattle.table.proofs.TableShrinking.{placed_there}
use Rattle.table.proofs.Table.take_out.Goals as goal

pub returns-in_default : goal.returns-in_default
returns-in_default c = record {
  one_entry_less = λ s found.
      let t = c.args.self.now in
      let past : length (held t.entries) ≤ c.place_of-at.result = omega (arith, c.in_default.ensures.element) in
      absurd (both_ways (is_some (sought (held t.bytes) (held t.entries) c.args.path.now)) (ap is_some (sought_past (held t.bytes) c.args.path.now (held t.entries) c.place_of-at.result (c.place_of-at.ensures.those_before s) past)) found);
  keeps_the_slices = record { entries = refl; bytes = refl; entries_capacity = refl; bytes_capacity = refl };
}

if_some : (b : Bool) (e : Entry) → is_some (then_some b e) ≡ true → b ≡ true
if_some true e h = refl
if_some false e h = absurd (both_ways (is_some (then_some false e)) refl h)

pub returns : goal.returns
returns c = record {
  one_entry_less = λ s found.
      let t = c.args.self.now in
      let p = c.args.path.now in
      let es = held t.entries in
      let bs = held t.bytes in
      let at = c.place_of-at.result in
      let e = c.in-Some.e in
      let inside = c.in-Some.ensures.element.0 in
      let here = c.in-Some.ensures.element.1 e in
      let first = c.place_of-at.ensures.those_before s in
      let there = sought_there bs p es at first (c.place_of-at.ensures.those_not_before s) s.sorted inside e here in
      let same : bytes_eq (path_of bs e) p ≡ true = if_some (bytes_eq (path_of bs e) p) e (sym (ap is_some there) ∙ found) in
      let split : es ≡ take at es ++ e ∷ drop (at + 1) es = sym (take-append-drop at es) ∙ ap (λ ys. take at es ++ ys) (drop_more es at e inside ∙ ap (λ x. x ∷ drop (at + 1) es) (sym here)) in
      let within = placed_there bs (take at es) (drop (at + 1) es) e (subst (Placed bs) split s.placed) in
      let size = c.size_within-size.ensures.whole (omega (arith, within, held_count t.bytes s.room, c.len.ensures.count)) in
      record {
        at = at;
        entry = e;
        there = split;
        path = (bytes_eq-Decides (path_of bs e) p).0 same;
        those_before = first;
        entries = c.move_down.ensures.moved ∙ ap (λ k. map (moved e.start k) (held c.remove.new.self)) size ∙ ap (map (moved e.start (size_of e))) c.remove.ensures.without_them;
        bytes = c.remove-2.ensures.without_them ∙ ap (λ k. closed e.start k bs) size;
        entries_within = c.move_down.ensures.within;
        bytes_within = c.remove-2.new.self.within;
      };
  keeps_the_slices = record {
    entries = c.move_down.ensures.same_memory ∙ c.remove.ensures.same_memory;
    bytes = c.remove-2.ensures.same_memory;
    entries_capacity = c.move_down.ensures.same_capacity ∙ c.remove.ensures.same_capacity;
    bytes_capacity = c.remove-2.ensures.same_capacity;
  };
}
