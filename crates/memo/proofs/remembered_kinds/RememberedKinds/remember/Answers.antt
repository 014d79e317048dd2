use Rattle.std.proofs.Common.{◌≡◌, ◌+◌, ◌%◌, ◌<◌, ◌≤◌, ◌⊎◌, ltb, length, map, set, sym, ap, ◌∙◌, inl, inr, rules, arith}
use Rattle.std.proofs.lemmas.Bool.{cases_lt}
use Rattle.memo.specs.Memo.{item_of, in_turn, entered, remembered}
use Rattle.memo.proofs.MemoRecords.{until_full, once_full, at_first, with_room, room_made}
use Rattle.memo.proofs.remembered_kinds.RememberedKinds.remember.Goals as goal

pub returns-then-self-lt-LIMIT : goal.returns-then-self-lt-LIMIT
returns-then-self-lt-LIMIT c = record {
  first_in_first_out = λ short.
      let k = c.args.self.now in
      let r = c.set.new.self in
      let less = c.if-self-lt-LIMIT.true in
      let whole : length k.records ≡ 64 = search rules in
      ap (λ o. map item_of (in_turn o (k.count + 1) (set k.records k.count r))) (at_first (ltb (k.count + 1) 64))
      ∙ with_room k.records k.count r whole less
      ∙ ap (λ o. entered (map item_of (in_turn o k.count k.records)) (item_of r)) (sym (until_full k.count k.oldest less))
      ∙ ap (entered (remembered k)) (c.set.ensures.of_the_path short);
}

pub returns-else-self-lt-LIMIT : goal.returns-else-self-lt-LIMIT
returns-else-self-lt-LIMIT c = record {
  first_in_first_out = λ short.
      let k = c.args.self.now in
      let r = c.set-else-self-lt-LIMIT.new.self in
      let full : 64 ≤ k.count = c.if-self-lt-LIMIT.false in
      let whole : length k.records ≡ 64 = search rules in
      let at = k.oldest % 64 in
      let within : at < 64 = omega arith in
      let next = (at + 1) % 64 in
      let turn : ((at + 1 < 64) × (next ≡ at + 1)) ⊎ ((at + 1 ≡ 64) × (next ≡ 0)) = elim (cases_lt (at + 1) 64) [
        | inl less ↦ inl (less, omega arith)
        | inr last ↦ inr (omega arith, omega arith)
      ] in
      let kept : next % 64 ≡ next = omega arith in
      ap (λ o. map item_of (in_turn o k.count (set k.records at r))) (once_full k.count next full ∙ kept)
      ∙ room_made k.records at r whole within next k.count full turn
      ∙ ap (λ o. entered (map item_of (in_turn o k.count k.records)) (item_of r)) (sym (once_full k.count k.oldest full))
      ∙ ap (entered (remembered k)) (c.set-else-self-lt-LIMIT.ensures.of_the_path short);
}
