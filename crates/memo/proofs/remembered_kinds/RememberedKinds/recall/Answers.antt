use Rattle.std.proofs.Common.{◌≡◌, length, map, drop, take, sym, ap, ◌∙◌, rules}
use Rattle.std.proofs.lemmas.List.{map-append}
use Rattle.memo.specs.Memo.{item_of, first_place, recalled}
use Rattle.memo.proofs.MemoRecords.{until_full, in_turn_short, recalled_first, recalled_later}
use Rattle.memo.proofs.remembered_kinds.RememberedKinds.recall.Goals as goal

pub returns-in-Some : goal.returns-in-Some
returns-in-Some c =
    let k = c.args.self.now in
    let p = c.args.path.now in
    let o = first_place k in
    let whole : length k.records ≡ 64 = search rules in
    let older = c.after-older.ensures.all_but_the_first ∙ ap (λ n. drop n c.front.result.now) c.first-first.ensures.place ∙ ap (drop o) c.front.ensures.first_elements in
    let told = ap (λ rs. recalled (map item_of rs) p) (sym older) ∙ sym c.in-Some.ensures.first in
    record {
      first = sym (ap (λ xs. recalled xs p) (map-append item_of (drop o (take k.count k.records)) (take o k.records)) ∙ recalled_first _ (map item_of (take o k.records)) p c.in-Some.kind told);
      at_most_64 = in_turn_short o k.count k.records whole (until_full k.count k.oldest);
    }

pub returns : goal.returns
returns c =
    let k = c.args.self.now in
    let p = c.args.path.now in
    let o = first_place k in
    let whole : length k.records ≡ 64 = search rules in
    let older = c.after-older.ensures.all_but_the_first ∙ ap (λ n. drop n c.front.result.now) c.first-first.ensures.place ∙ ap (drop o) c.front.ensures.first_elements in
    let none = ap (λ rs. recalled (map item_of rs) p) (sym older) ∙ sym c.in_default.ensures.first in
    let newer = c.front-2.ensures.first_elements ∙ ap (λ n. take n k.records) c.first-first.ensures.place in
    record {
      first =
          c.kind_in-2.ensures.first ∙ ap (λ rs. recalled (map item_of rs) p) newer
          ∙ sym (ap (λ xs. recalled xs p) (map-append item_of (drop o (take k.count k.records)) (take o k.records)) ∙ recalled_later _ (map item_of (take o k.records)) p none);
      at_most_64 = in_turn_short o k.count k.records whole (until_full k.count k.oldest);
    }
