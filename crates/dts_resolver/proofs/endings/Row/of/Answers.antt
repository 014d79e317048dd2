-- A named ending has its row by computation, and the others differ from all of them.
use Rattle.std.proofs.Common.{codes}
use Rattle.dts_resolver.specs.Rows.{row_of}
use Rattle.dts_resolver.proofs.EndingRows.{row_named, row_other}
use Rattle.dts_resolver.proofs.endings.Row.of.Goals as goal
use Rattle.dts_resolver.proofs.endings.Row.of.Goals.{then-eq-via-then-eq, then-eq-via-else-eq+then-eq-2, then-eq-via-else-eq+else-eq-2+then-eq-3, then-eq-4-via-then-eq-4, then-eq-4-via-else-eq-4+then-eq-5, then-eq-4-via-else-eq-4+else-eq-5+then-eq-6, then-eq-7-via-then-eq-7, then-eq-7-via-else-eq-7+then-eq-8, then-eq-9-via-then-eq-9, then-eq-9-via-else-eq-9+then-eq-10, then-eq-9-via-else-eq-9+else-eq-10+then-eq-11}

pub returns-then-eq : goal.returns-then-eq
unfolding row_of
returns-then-eq c = record {
  by_ending = elim c.then-eq.branch [
    | then-eq-via-then-eq w ↦ row_named c.args.ending.now (codes ".mjs") (cc)
    | then-eq-via-else-eq+then-eq-2 w ↦ row_named c.args.ending.now (codes ".mts") (cc)
    | then-eq-via-else-eq+else-eq-2+then-eq-3 w ↦ row_named c.args.ending.now (codes ".d.mts") (cc)
  ];
}

pub returns-then-eq-4 : goal.returns-then-eq-4
unfolding row_of
returns-then-eq-4 c = record {
  by_ending = elim c.then-eq-4.branch [
    | then-eq-4-via-then-eq-4 w ↦ row_named c.args.ending.now (codes ".cjs") (cc)
    | then-eq-4-via-else-eq-4+then-eq-5 w ↦ row_named c.args.ending.now (codes ".cts") (cc)
    | then-eq-4-via-else-eq-4+else-eq-5+then-eq-6 w ↦ row_named c.args.ending.now (codes ".d.cts") (cc)
  ];
}

pub returns-then-eq-7 : goal.returns-then-eq-7
unfolding row_of
returns-then-eq-7 c = record {
  by_ending = elim c.then-eq-7.branch [
    | then-eq-7-via-then-eq-7 w ↦ row_named c.args.ending.now (codes ".tsx") (cc)
    | then-eq-7-via-else-eq-7+then-eq-8 w ↦ row_named c.args.ending.now (codes ".jsx") (cc)
  ];
}

pub returns-then-eq-9 : goal.returns-then-eq-9
unfolding row_of
returns-then-eq-9 c = record {
  by_ending = elim c.then-eq-9.branch [
    | then-eq-9-via-then-eq-9 w ↦ row_named c.args.ending.now (codes ".ts") (cc)
    | then-eq-9-via-else-eq-9+then-eq-10 w ↦ row_named c.args.ending.now (codes ".d.ts") (cc)
    | then-eq-9-via-else-eq-9+else-eq-10+then-eq-11 w ↦ row_named c.args.ending.now (codes ".js") (cc)
  ];
}

pub returns : goal.returns
returns c = record { by_ending = row_other c.args.ending.now (cc) (cc) (cc) (cc) (cc) (cc) (cc) (cc) (cc) (cc) (cc) }
