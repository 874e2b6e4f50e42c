-- `payloads::kind::message_type` meets its contract: each type by its number, any other by having none.
use mathlib.Core.Path.{sym, ap}
use Rattle.payloads.specs.Types.{types, type_in, type_for}
use Rattle.payloads.proofs.TypesFound.{no_type}
use Rattle.payloads.proofs.kind.message_type.Goals as goal

pub returns-in-73 : goal.returns-in-73
unfolding type_in
returns-in-73 c = sym (ap type_for c.in-73.is)

pub returns-in-256 : goal.returns-in-256
unfolding type_in
returns-in-256 c = sym (ap type_for c.in-256.is)

pub returns-in-518 : goal.returns-in-518
unfolding type_in
returns-in-518 c = sym (ap type_for c.in-518.is)

pub returns-in-512 : goal.returns-in-512
unfolding type_in
returns-in-512 c = sym (ap type_for c.in-512.is)

pub returns-in-513 : goal.returns-in-513
unfolding type_in
returns-in-513 c = sym (ap type_for c.in-513.is)

pub returns-in-514 : goal.returns-in-514
unfolding type_in
returns-in-514 c = sym (ap type_for c.in-514.is)

pub returns-in-516 : goal.returns-in-516
unfolding type_in
returns-in-516 c = sym (ap type_for c.in-516.is)

pub returns-in-515 : goal.returns-in-515
unfolding type_in
returns-in-515 c = sym (ap type_for c.in-515.is)

pub returns-in-517 : goal.returns-in-517
unfolding type_in
returns-in-517 c = sym (ap type_for c.in-517.is)

pub returns-in-519 : goal.returns-in-519
unfolding type_in
returns-in-519 c = sym (ap type_for c.in-519.is)

pub returns-in-68 : goal.returns-in-68
unfolding type_in
returns-in-68 c = sym (ap type_for c.in-68.is)

pub returns-in-72 : goal.returns-in-72
unfolding type_in
returns-in-72 c = sym (ap type_for c.in-72.is)

pub returns-in-129 : goal.returns-in-129
unfolding type_in
returns-in-129 c = sym (ap type_for c.in-129.is)

pub returns-in-130 : goal.returns-in-130
unfolding type_in
returns-in-130 c = sym (ap type_for c.in-130.is)

pub returns-in-131 : goal.returns-in-131
unfolding type_in
returns-in-131 c = sym (ap type_for c.in-131.is)

pub returns-in-144 : goal.returns-in-144
unfolding type_in
returns-in-144 c = sym (ap type_for c.in-144.is)

pub returns-in-145 : goal.returns-in-145
unfolding type_in
returns-in-145 c = sym (ap type_for c.in-145.is)

pub returns-in-146 : goal.returns-in-146
unfolding type_in
returns-in-146 c = sym (ap type_for c.in-146.is)

pub returns-in-161 : goal.returns-in-161
unfolding type_in
returns-in-161 c = sym (ap type_for c.in-161.is)

pub returns-in-166 : goal.returns-in-166
unfolding type_in
returns-in-166 c = sym (ap type_for c.in-166.is)

pub returns-in-162 : goal.returns-in-162
unfolding type_in
returns-in-162 c = sym (ap type_for c.in-162.is)

pub returns-in-65280 : goal.returns-in-65280
unfolding type_in
returns-in-65280 c = sym (ap type_for c.in-65280.is)

pub returns-in-65535 : goal.returns-in-65535
unfolding type_in
returns-in-65535 c = sym (ap type_for c.in-65535.is)

pub returns-in-1025 : goal.returns-in-1025
unfolding type_in
returns-in-1025 c = sym (ap type_for c.in-1025.is)

pub returns-in_default : goal.returns-in_default
returns-in_default c = (no_type types c.args.kind c.in_default.in_default-own.rest).1
