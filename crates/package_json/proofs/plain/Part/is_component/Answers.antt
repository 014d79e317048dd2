use Rattle.std.proofs.Common.{sym}
use Rattle.package_json.proofs.Components.{only_dots}
use Rattle.package_json.proofs.plain.Part.is_component.Goals as goal

pub returns-in-Empty : goal.returns-in-Empty
returns-in-Empty c = sym (only_dots c.args.self c.in-Empty.is)
