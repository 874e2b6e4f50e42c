-- `text::put_line` meets its contract.
use Rattle.std.proofs.Common.{◌-◌, set, ◌∙◌, arith, length-set}
use Rattle.text.proofs.LinesPut.{line_unfit, line_end, line_fits}
use Rattle.text.proofs.put_line.Goals as goal

pub returns-then-buf-n : goal.returns-then-buf-n
returns-then-buf-n c =
    let both = let a = c.args in
    line_unfit a.letter a.numbers a.buf.now a.at c.line_length-n.ensures c.wrapping_add_usize-end.ensures.value (omega (arith, c.if-buf-n.true)) in record { value = both.0; buf_after = both.1 }

pub returns-then-buf-n-2 : goal.returns-then-buf-n-2
returns-then-buf-n-2 c =
    let both = let a = c.args in
    line_unfit a.letter a.numbers a.buf.now a.at c.line_length-n.ensures c.wrapping_add_usize-end.ensures.value (omega (arith, c.if-buf-n-2.true, c.if-buf-n.false)) in record { value = both.0; buf_after = both.1 }

pub overflow_sub-last : goal.overflow_sub-last
overflow_sub-last c = omega (arith, c.well_formed.0.0, c.if-buf-n-2.false, c.if-buf-n.false, c.wrapping_add_usize-end.ensures.value, c.line_length-n.ensures)

pub bounds-buf-last : goal.bounds-buf-last
bounds-buf-last c =
    let a = c.args in
    omega (arith, c.well_formed.0.0, c.if-buf-n-2.false, c.if-buf-n.false, c.wrapping_add_usize-end.ensures.value, c.line_length-n.ensures, length-set a.buf.now a.at a.letter)

pub put_fields-requires : goal.put_fields-requires
put_fields-requires c =
    let a = c.args in
    let end = line_end a.letter a.numbers a.buf.now a.at c.line_length-n.ensures c.wrapping_add_usize-end.ensures.value
    c.well_formed.0.0 (omega (arith, c.if-buf-n-2.false, c.if-buf-n.false)) in
    let same = length-set (set a.buf.now a.at a.letter) (c.wrapping_add_usize-end.result - 1) 10 ∙ length-set a.buf.now a.at a.letter in
    record { numbers_len_bound = omega (arith, end, c.line_length-n.ensures); end_in_bounds = omega (arith, end, c.if-buf-n-2.false, c.if-buf-n.false, same) }

pub shape_of-buf : goal.shape_of-buf
shape_of-buf c =
    let a = c.args in
    omega (arith, c.put_fields.auto, length-set (set a.buf.now a.at a.letter) (c.wrapping_add_usize-end.result - 1) 10 ∙ length-set a.buf.now a.at a.letter)

pub returns : goal.returns
returns c =
    let both = let a = c.args in
    line_fits a.letter a.numbers a.buf.now a.at c.line_length-n.ensures c.wrapping_add_usize-end.ensures.value
    c.well_formed.0.0 (omega (arith, c.if-buf-n-2.false, c.if-buf-n.false)) c.put_fields.ensures in record { value = both.0; buf_after = both.1 }
