-- What is passed over are the first bytes.
use Rattle.std.proofs.Common.{◌≡◌, take, drop, ap, ◌∙◌, arith}
use Rattle.text.proofs.Coming.{behind_first, behind_all}
use Rattle.text.proofs.part.Part.after.Goals as goal
use Rattle.text.proofs.part.Part.after.Goals.{then-len-gt0, else-len-gt0}

pub returns : goal.returns
returns g c =
    let all = g.B.Bytes.to_come c.args.self.bytes in
    record {
      all_but_the_first = elim c.if-len-gt0.branch [
        | then-len-gt0 w ↦
            let came : g.B.Bytes.to_come c.if-len-gt0.bytes ≡ drop c.args.count all = ap g.B.Bytes.to_come w.bytes-is ∙ w.pass.ensures.all_but_the_first in
            ap (take c.saturating_sub-len.result) came ∙ behind_first _ c.args.count c.args.self.len all (omega arith) c.saturating_sub-len.ensures
        | else-len-gt0 w ↦ behind_all _ c.args.count c.args.self.len all _ (omega arith) (omega arith)
      ];
    }
