use Rattle.std.proofs.Common.{sym, subst, ◌∙◌, arith}
use Rattle.am_packet.proofs.Again.{reading_of_spelling}
use Rattle.am_packet.proofs.Whole.{packet_read_is_in_grammar}
use Rattle.am_packet.proofs.Causes.{ReadingTellsFirstCause, reading_tells_first_cause, reading_of_short_bytes, reading_without_mark, reading_of_other_version, reading_of_no_kind, reading_of_other_length, reading_of_wrong_field}
use Rattle.am_packet_reader.proofs.reader.decode.Goals as goal

pub returns-clause-found : goal.returns-clause-found
returns-clause-found c = packet_read_is_in_grammar c.read.result c.args.bytes.now (λ i. omega (arith, c.type_inv.bytes i)) c.read.ensures

pub returns-clause-only : goal.returns-clause-only
returns-clause-only c packet is e = c.read.ensures ∙ rw e (reading_of_spelling packet is)

pub returns-clause-short : goal.returns-clause-short
returns-clause-short c = (
  λ e. subst (λ r. ReadingTellsFirstCause r c.args.bytes.now) (sym c.read.ensures ∙ e) (reading_tells_first_cause c.args.bytes.now),
  λ h. c.read.ensures
      ∙ reading_of_short_bytes c.args.bytes.now h,
)

pub returns-clause-bad_mark : goal.returns-clause-bad_mark
returns-clause-bad_mark c = (
  λ e. subst (λ r. ReadingTellsFirstCause r c.args.bytes.now) (sym c.read.ensures ∙ e) (reading_tells_first_cause c.args.bytes.now),
  λ h. c.read.ensures
      ∙ reading_without_mark c.args.bytes.now h.0 h.1,
)

pub returns-clause-bad_version : goal.returns-clause-bad_version
returns-clause-bad_version c version = (
  λ e. subst (λ r. ReadingTellsFirstCause r c.args.bytes.now) (sym c.read.ensures ∙ e) (reading_tells_first_cause c.args.bytes.now),
  λ h. c.read.ensures
      ∙ reading_of_other_version c.args.bytes.now version h.0 h.1 h.2,
)

pub returns-clause-bad_kind : goal.returns-clause-bad_kind
returns-clause-bad_kind c kind = (
  λ e. subst (λ r. ReadingTellsFirstCause r c.args.bytes.now) (sym c.read.ensures ∙ e) (reading_tells_first_cause c.args.bytes.now),
  λ h. c.read.ensures
      ∙ reading_of_no_kind c.args.bytes.now kind h.0 h.1 h.2,
)

pub returns-clause-bad_length : goal.returns-clause-bad_length
returns-clause-bad_length c said found = (
  λ e. subst (λ r. ReadingTellsFirstCause r c.args.bytes.now) (sym c.read.ensures ∙ e) (reading_tells_first_cause c.args.bytes.now),
  λ h. c.read.ensures
      ∙ reading_of_other_length c.args.bytes.now said found h.0 h.1 h.2 h.3,
)

pub returns-clause-bad_field : goal.returns-clause-bad_field
returns-clause-bad_field c at = (
  λ e. subst (λ r. ReadingTellsFirstCause r c.args.bytes.now) (sym c.read.ensures ∙ e) (reading_tells_first_cause c.args.bytes.now),
  λ h. c.read.ensures
      ∙ reading_of_wrong_field c.args.bytes.now at h.0 h.1,
)
