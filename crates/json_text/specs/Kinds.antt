-- The kinds of values.
use Rattle.std.specs.Prelude.{ℕ, cond, ◌==◌}
use Rattle.json_text.specs.Json.{Json, false_name, null_name, true_name, object, array, number, string}
use Rattle.json_text.specs.declared.find.Kind.{Kind}
use Rattle.json_text.specs.declared.find.Kind.TheVariants as of

abbrev pub kind : Json → Kind
kind false_name = of.Plain
kind null_name = of.Plain
kind true_name = of.Plain
kind (object ms) = of.Object
kind (array vs) = of.Array
kind number = of.Plain
kind (string s) = of.String

-- the kind that a value has that begins with this byte
abbrev pub kind_by : ℕ → Kind
kind_by x = cond (x == 123) of.Object (cond (x == 91) of.Array (cond (x == 34) of.String of.Plain))
