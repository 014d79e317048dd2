use Rattle.std.proofs.Common.{◌≡◌, ℕ, ◌+◌, ◌<◌, ◌≤◌, min, List, map, length, take, drop, sym, refl, ap, ◌∙◌, inl, inr, arith}
use Rattle.std.proofs.lemmas.List.{take_all}
use Rattle.std.proofs.lemmas.Bool.{cases_lt}
use Rattle.memo.specs.declared.record.Record.{Record}
use Rattle.memo.specs.Memo.{item_of, without}
use Rattle.memo.proofs.MemoRecords.{without_none, next_dropped, next_kept, behind_next, behind_kept}
use Rattle.memo.proofs.record.keep_others.Goals as goal
use Rattle.memo.proofs.record.keep_others.Goals.{then-not-is_of, else-not-is_of}

pub loop-i-init : goal.loop-i-init
loop-i-init c = (omega arith, sym (without_none c.args.path.now), refl)

-- the records up to the end of the walk are all that are held
all_held : (rs : List Record) (held i : ℕ) → min held (length rs) ≤ i → i ≤ min held (length rs) → take i rs ≡ take held rs
all_held rs held i from to = elim (cases_lt held (length rs)) [
  | inl less ↦ ap (λ n. take n rs) (omega arith)
  | inr more ↦ take_all i rs (omega arith) ∙ sym (take_all held rs more)
]

pub loop-i-preserved : goal.loop-i-preserved
loop-i-preserved c =
    let rs₀ = c.args.records.now in
    let rs = c.loop-i.records in
    let p = c.args.path.now in
    let i = c.loop-i.i in
    let n = c.loop-i.count in
    let below = c.loop-i.invariant.0 in
    let before = c.loop-i.invariant.1 in
    let behind = c.loop-i.invariant.2 in
    let same_length = c.loop-i.auto.records in
    let inside : i < length rs₀ = omega (arith, c.min-end.ensures) in
    elim c.if-not-is_of.branch [
      | then-not-is_of w ↦ (
        omega (arith, w.count-is),
        ap (λ m. map item_of (take m c.if-not-is_of.records)) w.count-is
            ∙ ap (λ xs. map item_of (take (n + 1) xs)) w.records-is
            ∙ next_kept p rs₀ rs i n _ below inside same_length before behind (sym w.if-not-is_of.ensures.same_path),
        ap (drop (i + 1)) w.records-is ∙ behind_kept rs₀ rs i n _ below behind,
      )
      | else-not-is_of w ↦ (
        omega (arith, w.count-is),
        ap (λ m. map item_of (take m c.if-not-is_of.records)) w.count-is
            ∙ ap (λ xs. map item_of (take n xs)) w.records-is
            ∙ next_dropped p rs₀ rs i n _ below inside same_length before behind (sym w.if-not-is_of.ensures.same_path),
        ap (drop (i + 1)) w.records-is ∙ behind_next rs₀ rs i behind,
      )
    ]

pub returns : goal.returns
returns c = record {
  in_order =
      c.loop-i.invariant.1
      ∙ ap (λ xs. without c.args.path.now (map item_of xs)) (all_held c.args.records.now c.args.held c.loop-i.i (omega (arith, c.min-end.ensures)) (omega (arith, c.min-end.ensures)));
}
