use Rattle.std.proofs.Common.{sym, ◌∙◌, refl}
use Rattle.am_script.specs.Seen.{seen}
use Rattle.am_script.proofs.Documents.{document_in_unread_bytes, document_in_no_bytes, document_in_read_bytes, document_in_refused_bytes}
use Rattle.am_script.proofs.document.document.Goals as goal

pub returns-then-is_empty-clause-refused : goal.returns-then-is_empty-clause-refused
returns-then-is_empty-clause-refused c = λ other. (refl, document_in_no_bytes c.args.bytes.now (sym c.is_empty.ensures ∙ c.if-is_empty.true))

pub returns-in-Ok-clause-ok : goal.returns-in-Ok-clause-ok
returns-in-Ok-clause-ok c = document_in_read_bytes _ _ seen c.document_of.result c.in-Ok.ensures.cases.0 c.in-Ok.ensures.cases.1 c.document_of.ensures.ok

pub returns-in-Ok-clause-refused : goal.returns-in-Ok-clause-refused
returns-in-Ok-clause-refused c = document_in_refused_bytes _ _ _ c.document_of.result c.in-Ok.ensures.cases.0 c.document_of.ensures.refused

pub returns-in-Err-clause-refused : goal.returns-in-Err-clause-refused
returns-in-Err-clause-refused c = λ other. (refl, document_in_unread_bytes c.args.bytes.now (λ utf8. absurd (c.in-Err.ensures.cases.0 utf8)))
