use Rattle.std.proofs.Common.{◌≡◌, ◌++◌, ltb, length, map, take, drop, sym, ap, ◌∙◌, rules}
use Rattle.memo.specs.Memo.{item_of, first_place, in_turn, without, remembered}
use Rattle.memo.proofs.MemoRecords.{from_first, until_full, at_first, place_within, straight, without_unknown}
use Rattle.memo.proofs.remembered_kinds.RememberedKinds.forget.Goals as goal

pub returns-then-is_none : goal.returns-then-is_none
returns-then-is_none c = record { that_path_alone = sym (without_unknown (remembered c.args.self.now) c.args.path.now (sym c.recall.ensures.first ∙ search rules)) }

pub returns : goal.returns
returns c =
    let k = c.args.self.now in
    let rs = c.keep_others-self.new.records in
    let n = c.keep_others-self.result in
    let whole : length k.records ≡ 64 = search rules in
    let turned = c.rotate_left.ensures.after ∙ ap (λ i. drop i k.records ++ take i k.records) c.first-first.ensures.place in
    record {
      that_path_alone =
          ap (λ o. map item_of (in_turn o n rs)) (at_first (ltb n 64))
          ∙ ap (map item_of) (from_first n rs)
          ∙ c.keep_others-self.ensures.in_order
          ∙ ap (λ xs. without c.args.path.now (map item_of xs)) (straight (first_place k) k.count k.records c.rotate_left.new.self turned whole (place_within (ltb k.count 64) k.oldest) (until_full k.count k.oldest));
    }
