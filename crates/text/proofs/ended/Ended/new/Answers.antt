-- The last bytes are what is left behind the others.
use Rattle.std.proofs.Common.{arith}
use Rattle.std.proofs.lemmas.List.{length-take-le}
use Rattle.text.proofs.Ends.{at_end}
use Rattle.text.proofs.ended.Ended.new.Goals as goal

pub invariant_of-result : goal.invariant_of-result
invariant_of-result g c =
    let all = c.whole-all.result in
    let last = c.after-last.result in
    let count = length-take-le all.len (g.B.Bytes.to_come all.bytes) all.within in
    record {
      at_the_end = at_end _ _ c.saturating_sub.result all.len last.len c.after-last.ensures.all_but_the_first count (length-take-le last.len (g.B.Bytes.to_come last.bytes) last.within)
          (omega (arith, c.saturating_sub.ensures, c.bytes_left.ensures.number_of_bytes, count));
    }
