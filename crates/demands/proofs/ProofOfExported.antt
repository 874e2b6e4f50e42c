-- The demands hold of the functions that C and Rust link, all of it by citations.
use mathlib.Core.Path.{sym, ap, ◌∙◌}
use mathlib.Core.List.{List, ◌++◌}
use Rattle.senders.proofs.Carrying.{carries_linked}
use Rattle.row_reader.proofs.EachRead.{all_read}
use Rattle.row_writer.proofs.WrittenTyped.{as_typed}
use Rattle.epochs.specs.Epoch.{reports_in, reports_of}
use Rattle.epochs.specs.Happened.{Happened}
use Rattle.epochs.proofs.Making.{seated}
use Rattle.epochs.proofs.Collations.{same_state, same_reports}
use Rattle.epochs.proofs.Arrivals.{in_any_order}
use Rattle.told.proofs.Lives.{told_made, stands, tells_epoch, tells_copy}
use Rattle.told.proofs.Grows.{grows}
use Rattle.frames_told.proofs.CallsTell.{frames_told}
use Rattle.frames_told.proofs.RowAfterRow.{rows_follow}
use Rattle.rows_back.proofs.BackAgain.{all_back}
use Rattle.rows_back.proofs.StoredRows.{rows_stored}
use Rattle.rows_back.proofs.FieldsShown.{field_rows}
use Rattle.rows_back.proofs.ObsProof.{obs_rows}
use Rattle.rows_back.proofs.LogProof.{log_rows}
use Rattle.demands.specs.Exported.{Exported}
use Rattle.demands.proofs.FlagTables.{flags_by_type}
use Rattle.demands.proofs.ProofOf3.{reported}
use Rattle.demands.proofs.StatesLeft.{other_bytes}
use Rattle.demands.proofs.ReportsLeft.{report_alone, report_kept}

pub exported : Exported
exported = record {
  frames_told = frames_told;
  rows_follow = rows_follow;
  epochs_told = tells_epoch;
  other_bytes = other_bytes;
  report_alone = report_alone;
  report_kept = report_kept;
  epochs_read = λ roster s report xs f es w. reported roster f.taken xs es w ∙ ap reports_in (sym (told_made roster s report xs f));
  same_reports = λ roster s t report other xs ys f g same sender n.
      ap (λ (hs : List Happened). reports_of sender (reports_in hs)) (told_made roster s report xs f)
      ∙ same_reports roster (seated roster f.taken) xs ys same sender n
      ∙ sym (ap (λ (hs : List Happened). reports_of sender (reports_in hs)) (told_made roster t other ys g));
  same_state = λ roster s t report other xs ys f g same.
      stands roster s report xs f ∙ same_state roster (seated roster f.taken) xs ys same ∙ sym (stands roster t other ys g);
  any_order = λ roster s t report other xs ys zs f g sender n one r.
      let same = in_any_order roster (seated roster f.taken) sender n xs ys zs one r in (
        ap reports_in (told_made roster s report (xs ++ ys) f) ∙ same.same_reports ∙ sym (ap reports_in (told_made roster t other (xs ++ zs) g)),
        stands roster s report (xs ++ ys) f ∙ same.same_state ∙ sym (stands roster t other (xs ++ zs) g),
      );
  copies_told = tells_copy;
  growing = grows;
  senders = carries_linked;
  rows_read = all_read;
  field_rows = field_rows;
  rows_stored = rows_stored;
  rows_written = as_typed;
  rows_back = all_back;
  obs_rows = obs_rows;
  log_rows = log_rows;
  flags = flags_by_type;
}
