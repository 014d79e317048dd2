use Rattle.std.proofs.Common.{sym, ap}
use Rattle.dts_resolver.specs.Rows.{columns_in}
use Rattle.dts_resolver.proofs.EndingRows.{five_columns}
use Rattle.dts_resolver.proofs.endings.Row.columns.Goals as goal

pub returns-in-Module : goal.returns-in-Module
unfolding columns_in
returns-in-Module c = record { in_order = λ e. ap (λ row. columns_in row e) (sym c.in-Module.is); at_most_five = five_columns c.args.self }

pub returns-in-CommonJs : goal.returns-in-CommonJs
unfolding columns_in
returns-in-CommonJs c = record { in_order = λ e. ap (λ row. columns_in row e) (sym c.in-CommonJs.is); at_most_five = five_columns c.args.self }

pub returns-in-Jsx : goal.returns-in-Jsx
unfolding columns_in
returns-in-Jsx c = record { in_order = λ e. ap (λ row. columns_in row e) (sym c.in-Jsx.is); at_most_five = five_columns c.args.self }

pub returns-in-Plain : goal.returns-in-Plain
unfolding columns_in
returns-in-Plain c = record { in_order = λ e. ap (λ row. columns_in row e) (sym c.in-Plain.is); at_most_five = five_columns c.args.self }

pub returns-in-Other-clause-at_most_five : goal.returns-in-Other-clause-at_most_five
returns-in-Other-clause-at_most_five c = five_columns c.args.self
