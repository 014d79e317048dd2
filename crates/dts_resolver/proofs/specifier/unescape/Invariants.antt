-- What the list holds, and what the rest comes to, are together what the whole comes to.
use Rattle.std.proofs.Common.{◌≡◌, ◌++◌, drop}
use Rattle.list.specs.Held.{held, Extended}
use Rattle.dts_resolver.specs.Specifier.{unescaped}
use Rattle.dts_resolver.proofs.specifier.unescape.Given as goal

abbrev pub invariant-loop-i : goal.invariant-loop-i
invariant-loop-i l = record {
  same_memory : l.text.items.ghost_name ≡ l.initial.text.items.ghost_name;
  grew : Extended l.initial.text l.text;
  read : held l.text ++ unescaped (drop l.i l.raw) ≡ unescaped l.raw;
}
