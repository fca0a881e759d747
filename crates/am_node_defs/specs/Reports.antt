-- What each name has reported.
use Rattle.std.specs.Prelude.{ℕ, max, min, List, [], ◌∷◌, Option, Some, None, ◌==◌, nat_lt, if◌then◌else◌, slice_index_or}
use Rattle.am_base.specs.declared.image.Report.{Report}
use Rattle.am_base.specs.Names.{names_of}

-- nothing is reported
abbrev pub no_report : Report
no_report = record { stored = 0; taken = 0 }

abbrev pub no_reports : ℕ → Report
no_reports = λ name. no_report

-- the reports of a list by the bytes of the names
abbrev pub reports_of : List Report → ℕ → Report
reports_of kept = λ name. slice_index_or kept name no_report

-- one name's report is this one
abbrev pub reports_with_report : (ℕ → Report) → ℕ → Report → ℕ → Report
reports_with_report reports name report = λ other. if other == name then report else reports other

-- both numbers of a report are raised
abbrev pub raise_report : Report → Report → Report
raise_report old report = record { stored = max old.stored report.stored; taken = max old.taken report.taken }

-- a name reports
abbrev pub reports_after_report : (ℕ → Report) → ℕ → Report → ℕ → Report
reports_after_report reports name report = reports_with_report reports name (raise_report (reports name) report)

-- all up to a number
abbrev pub report_of_all_up_to : ℕ → Report
report_of_all_up_to base = record { stored = base; taken = base }

-- a name begins at a number
abbrev pub reports_with_joiner : (ℕ → Report) → ℕ → ℕ → ℕ → Report
reports_with_joiner reports name base = reports_with_report reports name (report_of_all_up_to base)

-- each of the names begins at a number
abbrev pub reports_beginning_at : ℕ → ℕ → Report
reports_beginning_at base = λ name. if nat_lt name 256 then report_of_all_up_to base else no_report

-- the lesser of two numbers that may be there
abbrev pub lesser_of_options : Option ℕ → Option ℕ → Option ℕ
lesser_of_options None b = b
lesser_of_options (Some x) None = Some x
lesser_of_options (Some x) (Some y) = Some (min x y)

-- the least of what some names have
unfoldable pub least_of_names : (ℕ → ℕ) → List ℕ → Option ℕ
least_of_names f [] = None
least_of_names f (name ∷ names) = lesser_of_options (Some (f name)) (least_of_names f names)

-- the least that the names of a set have stored, and taken
abbrev pub least_stored_of_names : (ℕ → Report) → List ℕ → Option ℕ
least_stored_of_names reports set = least_of_names (λ name. (reports name).stored) (names_of set)

abbrev pub least_taken_of_names : (ℕ → Report) → List ℕ → Option ℕ
least_taken_of_names reports set = least_of_names (λ name. (reports name).taken) (names_of set)
