-- What `sbp_list` hands back, and what it leaves in the text and in the number that it is lent.
use Rattle.std.specs.Prelude.{ℕ, List}
use Rattle.refusals.specs.Refusals.{zero_or}
use Rattle.frame_writer.specs.Writer.{size_left}
use Rattle.listing.specs.Listing.{list_answer}

abbrev pub text_answer : List ℕ → ℕ → ℕ
text_answer s room = zero_or (list_answer s room)

-- the text's length, or what stood there
abbrev pub size_after : List ℕ → ℕ → ℕ → ℕ
size_after s room before = size_left (list_answer s room) before
