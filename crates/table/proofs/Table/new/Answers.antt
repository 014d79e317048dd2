use Rattle.std.proofs.Common.{[], length, sym, ap, ◌∙◌, subst, arith}
use Rattle.list.specs.Held.{held, capacity}
use Rattle.list.proofs.Held.{held_none}
use Rattle.table.specs.Table.{tree_of, sought, space_of, total}
use Rattle.table.specs.Sound.{Sorted, Placed, AllApart}
use Rattle.table.proofs.Table.new.Goals as goal

pub returns : goal.returns
unfolding tree_of sought
returns c =
    let entries = c.new.result in
    let bytes = c.new-2.result in
    let no_entries = held_none entries c.new.ensures.holds_none in
    let no_bytes = held_none bytes c.new-2.ensures.holds_none in
    record {
      begins_with_the_root_alone = λ p. ap (λ es. tree_of es (held bytes) p) no_entries;
      has_exactly_the_lent_space =
          ap (space_of (capacity entries) (capacity bytes)) no_entries
          ∙ ap (λ n. space_of n (capacity bytes) []) (ap length c.new.ensures.memory_as_before)
          ∙ ap (λ n. space_of (length c.args.entries.now) n []) (ap length c.new-2.ensures.memory_as_before);
      is_sound = record {
        entries = omega (arith, c.new.ensures.holds_none);
        room = omega (arith, c.new-2.ensures.holds_none);
        placed = subst (λ es. Placed (held bytes) es) (sym no_entries) tt;
        sorted = subst (λ es. Sorted (held bytes) es) (sym no_entries) tt;
        exact = ap total no_entries ∙ sym (ap length no_bytes);
        apart = subst AllApart (sym no_entries) tt;
      };
      same_slices = (c.new.ensures.same_memory, c.new-2.ensures.same_memory);
      memory_as_before = (c.new.ensures.memory_as_before, c.new-2.ensures.memory_as_before);
    }
