use Rattle.std.proofs.Common.{refl, ap, ◌∙◌}
use Rattle.file_system.specs.Tree.{kind_of}
use Rattle.table.proofs.TableFileSystem.kind.Goals as goal

pub returns : goal.returns
returns c = record {
  follows_the_tree = λ s. c.from.ensures ∙ ap kind_of (c.node.ensures.follows_the_tree s);
  same_tree = λ s. refl;
  same_space = λ s. refl;
  stays_sound = λ s. s;
}
