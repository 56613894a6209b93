-- The numbers of the kinds of records. Assumes nothing.
use Rattle.std.specs.Prelude.{ℕ}
use Rattle.index_file.specs.declared.kind.Kind.{Kind}
use Rattle.index_file.specs.declared.kind.Kind.TheVariants.{Head, Term, Locator, End}

abbrev pub kind_number : Kind → ℕ
kind_number Head = 1
kind_number Term = 2
kind_number Locator = 3
kind_number End = 4
