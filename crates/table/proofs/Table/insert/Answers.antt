use Rattle.std.proofs.Common.{◌≡◌, ℕ, ◌+◌, ◌<◌, ◌≤◌, ◌&&◌, ltb, leb, List, ◌∷◌, ◌++◌, length, take, drop, is_ok, Option, sym, refl, ap, ◌∙◌, arith, rules}
use Rattle.std.proofs.lemmas.List.{append_assoc}
use Rattle.std.proofs.lemmas.Bool.{lt-ltb, le-leb, cond-true}
use denote.Ref.{Bor}
use Rattle.std.specs.Option.{option_map}
use Rattle.list.specs.Held.{held, capacity}
use Rattle.list.proofs.Held.{held_count}
use Rattle.table.specs.declared.entry.Entry.{Entry}
use Rattle.table.specs.Parts.{bytes_of}
use Rattle.table.proofs.TableGrowth.{bytes_given, lengths_given}
use Rattle.table.proofs.TableSpace.{has_room}
use Rattle.table.proofs.Table.insert.Goals as goal

pub returns : goal.returns
returns c = record {
  one_entry_more = λ s room.
      let t = c.args.self.now in
      let path = c.args.path.now in
      let content = bytes_of (option_map (λ (x : Bor (List ℕ)). x.now) c.args.content) in
      let given = bytes_given c.args.content _ c.unwrap_or.ensures refl in
      let space = has_room t path (length content) s room in
      let one : t.entries.len < capacity t.entries = space.0 in
      let both : t.bytes.len + (length path + length content) ≤ capacity t.bytes = space.1 in
      let first = c.append.ensures.fits ∙ le-leb (t.bytes.len + length path) (capacity t.bytes) (omega arith) in
      let held-path = c.append.ensures.all_more ∙ cond-true (is_ok c.append.result) (held t.bytes ++ path) (held t.bytes) first in
      let path-count = c.append.ensures.counted ∙ cond-true (is_ok c.append.result) (t.bytes.len + length path) t.bytes.len first in
      let mid = c.append.new.self in
      let second = c.append-2.ensures.fits ∙ ap (λ n. leb (mid.len + n) (capacity mid)) (ap length given) ∙ le-leb (mid.len + length content) (capacity mid) (omega (arith, path-count, c.append.ensures.same_capacity)) in
      let held-content = c.append-2.ensures.all_more ∙ cond-true (is_ok c.append-2.result) (held mid ++ c.unwrap_or.result.now) (held mid) second in
      let content-count = c.append-2.ensures.counted ∙ cond-true (is_ok c.append-2.result) (mid.len + length c.unwrap_or.result.now) mid.len second in
      let es = held t.entries in
      let at = c.place_of-at.result in
      let those_before = c.place_of-at.ensures.those_before s in
      let those_not_before = c.place_of-at.ensures.those_not_before s in
      let third = c.insert.ensures.fits ∙ ap (λ b. b && ltb t.entries.len (capacity t.entries)) (le-leb at t.entries.len (c.place_of-at.ensures.inside s)) ∙ lt-ltb t.entries.len (capacity t.entries) one in
      let kind : c.map.result ≡ option_map length (option_map (λ (x : Bor (List ℕ)). x.now) c.args.content) =
      (let told : c.map.result ≡ option_map (λ (x : Bor (List ℕ)). length x.now) c.args.content = search rules in told ∙ lengths_given c.args.content) in
      let start = c.len.ensures.count ∙ sym (held_count t.bytes s.room) in
      let entry : Option ℕ → ℕ → Entry = λ k n. record { start = n; path = length path; content = k } in
      let with : Entry → List Entry = λ e. take at es ++ e ∷ drop at es in
      let one_more = c.insert.ensures.one_more ∙ cond-true (is_ok c.insert.result) (with (entry c.map.result c.len.result)) es third in
      let entry-count = c.insert.ensures.counted ∙ cond-true (is_ok c.insert.result) (t.entries.len + 1) t.entries.len third in
      record {
        at = at;
        entries = one_more ∙ ap (λ k. with (entry k c.len.result)) kind ∙ ap (λ n. with (entry (option_map length (option_map (λ (x : Bor (List ℕ)). x.now) c.args.content)) n)) start;
        bytes = held-content ∙ ap (λ xs. held mid ++ xs) given ∙ ap (λ xs. xs ++ content) held-path ∙ append_assoc (held t.bytes) path content;
        those_before = search (rules, those_before);
        those_not_before = search (rules, those_not_before);
        entries_within = omega (arith, entry-count, c.insert.ensures.same_capacity);
        bytes_within = omega (arith, content-count, ap length given, path-count, c.append-2.ensures.same_capacity, c.append.ensures.same_capacity);
      };
  keeps_the_slices = record {
    entries = c.insert.ensures.same_memory;
    bytes = c.append-2.ensures.same_memory ∙ c.append.ensures.same_memory;
    entries_capacity = c.insert.ensures.same_capacity;
    bytes_capacity = c.append-2.ensures.same_capacity ∙ c.append.ensures.same_capacity;
  };
}
