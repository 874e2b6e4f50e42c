-- What only private contracts cite.
use Rattle.std.specs.Prelude.{List, ◌++◌}
use Rattle.wire.specs.Value.{Format}
use Rattle.formats.specs.Digits.{formats_by}
use Rattle.formats.specs.declared.Shape.{Shape}

-- the formats that the digits of a shape say
abbrev pub formats_in : Shape → List Format
formats_in s = formats_by s.head ++ formats_by s.more
