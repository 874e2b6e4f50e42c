-- READ_BY_INDEX_REQ, 0x00A2: asks for the setting at an index.
use Rattle.std.specs.Prelude.{refl, [], ◌∷◌}
use Rattle.wire.specs.Value.{u16}
use Rattle.layouts.specs.Field.{any}
use Rattle.layouts.specs.Layout.{run}
use Rattle.layouts.specs.Description.{Description, Fixed, fixed_run}
use Rattle.system.specs.declared.settings.ReadByIndexReq.{ReadByIndexReq}

abbrev pub read_by_index_req : Description ReadByIndexReq
read_by_index_req = record {
  kind = 0x00a2;
  layout = run (any u16 ∷ []);
  row = λ r. (r.index, tt);
  make = λ v. record { index = v.0 };
  row_make = λ v. refl;
  make_row = λ r. refl;
}

-- it has no part that repeats
pub fixed : Fixed read_by_index_req 0x00a2 2
fixed = fixed_run read_by_index_req refl
