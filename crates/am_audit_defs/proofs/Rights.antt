-- What agrees has no verdict that says what is wrong.
use Rattle.std.proofs.Common.{◌≡◌, ◌≢◌, ℕ, zero, suc, ◌+◌, ◌<◌, ◌≤◌, ◌==◌, List, [], ◌∷◌, length, take, map, Option, Some, None, slice_get, Result, Ok, Err}
use Rattle.std.proofs.Common.{Bool, true, false, cond, refl, sym, subst, ap, ◌∙◌, arith, add-one, ⊎_elim}
use Rattle.std.proofs.lemmas.Bool.{eq-eqb, eqb-true}
use Rattle.std.proofs.lemmas.Option.{slice_get_within}
use Rattle.am_base.specs.Most.{greatest_number}
use Rattle.am_base.specs.Lists.{blank, after, fits, image_after_entries, AllEntriesFit}
use Rattle.am_base.specs.declared.image.Image.{Image}
use Rattle.am_group.specs.Journals.{item_at}
use Rattle.am_audit_defs.specs.declared.verdict.Verdict.{Verdict}
use Rattle.am_audit_defs.specs.declared.verdict.Verdict.TheVariants as verdicts
use Rattle.am_audit_defs.specs.declared.outline.Outline.{Outline}
use Rattle.am_audit_defs.specs.declared.outline.Outline.TheVariants as outlines
use Rattle.am_audit_defs.specs.Fields.{outline_of, data_in}
use Rattle.am_audit_defs.specs.Lines.{Line, Reading}
use Rattle.am_audit_defs.specs.Verdicts.{bare_entry, lines_of, count_of, verdict_of, is_right}
use Rattle.am_audit_defs.specs.Agreement.{IsPiece, LogBegins, LogBeginsAt, StandsAlone, FitBehind, Lists, Agreed}
use Rattle.am_audit_defs.specs.Meanings.{IsLast, HasNone, IsFirst, IsLine, LineHasSend, MayStand, VerdictSays, StandOnce}
use Rattle.am_audit_defs.proofs.Segments.{count_of_name_is_length}
use Rattle.am_audit_defs.proofs.Saying.{verdict_says_what_holds}

-- ---- a name's lines

filter_by : (b : Bool) (x : Line) (lines : List Line) (n : ℕ) (line : Line) → slice_get lines n ≡ Some line
    → slice_get (cond b (x ∷ lines) lines) (cond b (n + 1) n) ≡ Some line
filter_by true x lines n line is = ap (slice_get (x ∷ lines)) (add-one n) ∙ is
filter_by false x lines n line is = is

first_by : (b : Bool) (x : Line) (lines : List Line) → b ≡ true → slice_get (cond b (x ∷ lines) lines) 0 ≡ Some x
first_by true x lines is = refl
first_by false x lines is = cc

-- a line is its name's line of the index that counts those before it
filter_at : (name : ℕ) (all : List Line) (place : ℕ) (line : Line) → slice_get all place ≡ Some line → line.name ≡ name
    → slice_get (lines_of name all) (count_of name (take place all)) ≡ Some line
filter_at name [] place line there named = cc
filter_at name (x ∷ xs) zero line there named =
    let alike : x ≡ line = cc in
    first_by (x.name == name) x (lines_of name xs) (eq-eqb x.name name (ap (λ (l : Line). l.name) alike ∙ named)) ∙ there
filter_at name (x ∷ xs) (suc place) line there named =
    filter_by (x.name == name) x (lines_of name xs) (count_of name (take place xs)) line (filter_at name xs place line there named)

still : (b : Bool) (x : Line) (name n : ℕ) → (x.name == name) ≡ b → x.name ≢ name → cond b (n + 1) n ≡ n
still true x name n is other = absurd (other (eqb-true x.name name is))
still false x name n is other = refl

none_count : (name : ℕ) (all : List Line) (place : ℕ) → HasNone all place name → count_of name (take place all) ≡ 0
none_count name all zero none = refl
none_count name [] (suc place) none = refl
none_count name (x ∷ xs) (suc place) none =
    still (x.name == name) x name (count_of name (take place xs)) refl (none 0 x (omega arith) refl)
    ∙ none_count name xs place (λ k other within is. none (suc k) other (omega (arith, within)) is)

one_more : (b : Bool) (n m : ℕ) → n ≡ m + 1 → cond b (n + 1) n ≡ cond b (m + 1) m + 1
one_more true n m is = ap (λ (k : ℕ). k + 1) is
one_more false n m is = is

begun : (b : Bool) (n : ℕ) → b ≡ true → n ≡ 0 → cond b (n + 1) n ≡ 1
begun true n is none = omega (arith, none)
begun false n is none = cc

-- a name's last line before a place has the index before
last_count : (name : ℕ) (all : List Line) (at place : ℕ) (x : Line) → at < place → slice_get all at ≡ Some x → x.name ≡ name
    → ((k : ℕ) (other : Line) → at < k → k < place → slice_get all k ≡ Some other → other.name ≢ name)
    → count_of name (take place all) ≡ count_of name (take at all) + 1
last_count name [] at place x before there named last = cc
last_count name (y ∷ ys) at zero x before there named last = absurd (omega (arith, before))
last_count name (y ∷ ys) zero (suc place) x before there named last =
    let alike : y ≡ x = cc in
    begun (y.name == name) (count_of name (take place ys)) (eq-eqb y.name name (ap (λ (l : Line). l.name) alike ∙ named))
    (none_count name ys place (λ k other within is. last (suc k) other (omega arith) (omega (arith, within)) is))
last_count name (y ∷ ys) (suc at) (suc place) x before there named last =
    one_more (y.name == name) (count_of name (take place ys)) (count_of name (take at ys))
    (last_count name ys at place x (omega (arith, before)) there named
    (λ k other behind within is. last (suc k) other (omega (arith, behind)) (omega (arith, within)) is))

-- a line that stands at a place isn't counted before it
more_by : (b : Bool) (n m : ℕ) → n < m → cond b (n + 1) n < cond b (m + 1) m
more_by true n m low = omega (arith, low)
more_by false n m low = low

counted : (b : Bool) (n : ℕ) → b ≡ true → 0 < cond b (n + 1) n
counted true n is = omega arith
counted false n is = cc

count_above : (name : ℕ) (all : List Line) (place : ℕ) (line : Line) → slice_get all place ≡ Some line → line.name ≡ name
    → count_of name (take place all) < count_of name all
count_above name [] place line there named = cc
count_above name (x ∷ xs) zero line there named =
    let alike : x ≡ line = cc in
    counted (x.name == name) (count_of name xs) (eq-eqb x.name name (ap (λ (l : Line). l.name) alike ∙ named))
count_above name (x ∷ xs) (suc place) line there named =
    more_by (x.name == name) (count_of name (take place xs)) (count_of name xs) (count_above name xs place line there named)

not_empty : (lines : List Line) (n : ℕ) (line : Line) → slice_get lines n ≡ Some line → lines ≢ []
not_empty [] n line is empty = cc
not_empty (x ∷ xs) n line is empty = cc

-- ---- logs that are pieces of the list

record IsPieceAt (s : Reading) (place : ℕ) (line : Line) : Type 0 where
  start : ℕ
  begins : LogBeginsAt s.group line.name start
  number : line.number ≡ start + count_of line.name (take place s.logs)
  there : item_at s.group line.number ≡ Some line.text
  piece : IsPiece s.group (lines_of line.name s.logs) start

piece_at : (s : Reading) (place : ℕ) (line : Line) → Lists s → slice_get s.logs place ≡ Some line → IsPieceAt s place line
piece_at s place line lists there =
    let at = filter_at line.name s.logs place line there refl in
    let found = lists.segment line.name (not_empty (lines_of line.name s.logs) (count_of line.name (take place s.logs)) line at) in
    let each = found.2.each (count_of line.name (take place s.logs)) line at in
    record { start = found.0; begins = found.1; number = each.0; there = each.1; piece = found.2 }

no_gap : (s : Reading) (place node number last : ℕ) (line : Line) → Lists s → IsLine s.logs place node number line → IsLast s.logs place node last
    → last + 1 ≡ number
no_gap s place node number last line lists is by =
    let here = piece_at s place line lists is.there in
    let count = last_count line.name s.logs by.at place by.line by.before by.there (by.named ∙ sym is.named)
    (λ k other behind within at named. by.last k other behind within at (named ∙ is.named)) in
    let before = here.piece.each (count_of line.name (take by.at s.logs)) by.line
    (filter_at line.name s.logs by.at by.line by.there (by.named ∙ sym is.named)) in
    omega (arith, here.number, count, before.0, by.numbered, is.numbered)

-- ---- the list

record Matched (list : List Outline) (before : List Outline) (text : List ℕ) : Type 0 where
  outline : Outline
  read : outline_of text ≡ Ok outline
  there : slice_get list (length before) ≡ Some outline
  begins : take (length before) list ≡ before

matched : (texts : List (List ℕ)) (list before : List Outline) (text : List ℕ) → map outline_of texts ≡ map Ok list
    → slice_get texts (length before) ≡ Some text → map outline_of (take (length before) texts) ≡ map Ok before → Matched list before text
matched [] list before text all there read = cc
matched (t ∷ ts) [] before text all there read = cc
matched (t ∷ ts) (o ∷ os) [] text all there read =
    let alike : t ≡ text = cc in
    let is : outline_of t ≡ Ok o = cc in
    record { outline = o; read = ap outline_of (sym alike) ∙ is; there = refl; begins = refl }
matched (t ∷ ts) (o ∷ os) (b ∷ bs) text all there read =
    let later : map outline_of ts ≡ map Ok os = cc in
    let front : map outline_of (take (length bs) ts) ≡ map Ok bs = cc in
    let is : outline_of t ≡ Ok o = cc in
    let was : outline_of t ≡ Ok b = cc in
    let alike : o ≡ b = let both : Ok o ≡ Ok b = sym is ∙ was in cc in
    let found = matched ts os bs text later there front in
    record {
      outline = found.outline;
      read = found.read;
      there = found.there;
      begins = ap (λ (x : Outline). x ∷ take (length bs) os) alike ∙ ap (λ (xs : List Outline). b ∷ xs) found.begins;
    }

fit_at : (image : Image) (number k : ℕ) (list : List Outline) (outline : Outline) → AllEntriesFit image number (map bare_entry list) → slice_get list k ≡ Some outline
    → fits (image_after_entries image number (map bare_entry (take k list))) (bare_entry outline) ≡ true
unfolding AllEntriesFit image_after_entries
fit_at image number k [] outline fit there = cc
fit_at image number zero (o ∷ os) outline fit there =
    let alike : o ≡ outline = cc in ap (λ (x : Outline). fits image (bare_entry x)) (sym alike) ∙ fit.0
fit_at image number (suc k) (o ∷ os) outline fit there = fit_at (after image number (bare_entry o)) (number + 1) k os outline fit.1 there

stand_by : (list before : List Outline) (outline : Outline) → FitBehind list → take (length before) list ≡ before → slice_get list (length before) ≡ Some outline
    → 0 < length before → fits (image_after_entries blank 1 (map bare_entry before)) (bare_entry outline) ≡ true
unfolding image_after_entries
stand_by list [] outline fit begins there some = absurd (omega (arith, some))
stand_by [] (b ∷ bs) outline fit begins there some = cc
stand_by (o ∷ os) (b ∷ bs) outline fit begins there some =
    let is = fit_at (after blank 1 (bare_entry o)) (1 + 1) (length bs) os outline fit there in
    ap (λ (xs : List Outline). fits (image_after_entries blank 1 (map bare_entry xs)) (bare_entry outline)) (sym begins) ∙ is

no_misfit : (s : Reading) (before : List Outline) (text : List ℕ) → Lists s → length s.group ≤ greatest_number → slice_get s.group (length before) ≡ Some text
    → map outline_of (take (length before) s.group) ≡ map Ok before → ((outline : Outline) → outline_of text ≡ Ok outline → MayStand before outline → ⊥) → ⊥
no_misfit s [] text lists few there read none =
    let found = lists.founded text there in none (outlines.View found.0) found.1 found.2
no_misfit s (b ∷ bs) text lists few there read none =
    let fitting = lists.fits in
    let found = matched s.group fitting.0 (b ∷ bs) text fitting.1 there read in
    let within = slice_get_within s.group (length (b ∷ bs)) text there in
    none found.outline found.read (
      omega (arith, within, few),
      stand_by fitting.0 (b ∷ bs) found.outline fitting.2 found.begins found.there (omega arith),
    )

-- ---- each verdict

right_by : (s : Reading) → length s.group ≤ greatest_number → StandOnce s.group → Agreed s → (v : Verdict) → VerdictSays s v → is_right v ≡ true
right_by s few once agreed (verdicts.Gap node number) says =
    absurd (says.5 (no_gap s says.0 node number says.1 says.2 agreed.lists says.3 says.4))
right_by s few once agreed (verdicts.Differs node_a node_b number) says =
    let here = piece_at s says.0 says.1 agreed.lists says.3.there in
    let first = piece_at s says.4.at says.2 agreed.lists says.4.there in
    let alike : Some says.2.text ≡ Some says.1.text
    = sym first.there ∙ ap (item_at s.group) (says.4.held ∙ sym says.3.numbered) ∙ here.there in
    let text : says.2.text ≡ says.1.text = cc in
    absurd (says.6 text)
right_by s few once agreed (verdicts.Twice from req) says =
    let here = piece_at s says.0 says.1 agreed.lists says.3 in
    let first = piece_at s says.5.at says.2 agreed.lists says.5.there in
    absurd (says.6 (once from req says.2.number says.1.number (says.2.text, says.5.held.0, first.there, says.5.held.1)
    (says.1.text, says.4.0, here.there, says.4.1)))
right_by s few once agreed (verdicts.Astray node number) says =
    let here = piece_at s says.0 says.1 agreed.lists says.2.there in
    absurd (says.3 (ap (item_at s.group) (sym says.2.numbered) ∙ here.there))
right_by s few once agreed (verdicts.Lost node req) says =
    let stands = agreed.lists.once says.0 says.1 says.2 in
    absurd (says.5 (subst (λ (n : ℕ). StandsAlone s.group node n says.1.number) says.4
    (subst (λ (n : ℕ). StandsAlone s.group n says.1.req says.1.number) says.3 stands)))
right_by s few once agreed (verdicts.Early node number) says =
    let line = says.1 in
    let here = piece_at s says.0 line agreed.lists says.2.there in
    let count = none_count line.name s.logs says.0 (λ k other within is named. says.3 k other within is (named ∙ says.2.named)) in
    let start : here.start ≡ line.number = omega (arith, here.number, count) in
    let alike : Some here.begins.0 ≡ Some line.text = sym here.begins.2 ∙ ap (item_at s.group) start ∙ here.there in
    let text : here.begins.0 ≡ line.text = cc in
    absurd (says.4 here.begins.1 (ap outline_of (sym text) ∙ here.begins.3)
    (subst (λ (n : ℕ). LogBegins n node here.begins.1) (start ∙ says.2.numbered)
    (subst (λ (n : ℕ). LogBegins here.start n here.begins.1) says.2.named here.begins.4)))
right_by s few once agreed (verdicts.Misfit number) says = absurd (no_misfit s says.0 says.1 agreed.lists few says.3 says.4 says.5)
right_by s few once agreed verdicts.ListsAgree says = refl
right_by s few once agreed (verdicts.Skipped node req) says =
    let place = says.1.0 in
    let send = says.1.1 in
    let line = says.1.2 in
    let number = agreed.turn node (count_of node (take place s.sends)) send (filter_at node s.sends place send line.there line.named) in
    absurd (⊎_elim
    (λ one.
    let by = one.1 in
    let count = last_count node s.sends by.at place by.line by.before by.there by.named by.last in
    let before = agreed.turn node (count_of node (take by.at s.sends)) by.line (filter_at node s.sends by.at by.line by.there by.named) in
    one.2 (omega (arith, number, count, before, by.numbered, line.numbered)))
    (λ none. none.1 (let count = none_count node s.sends place none.0 in omega (arith, number, count, line.numbered)))
    says.1.3)
right_by s few once agreed (verdicts.Unsent from req) says =
    let item = says.1 in
    let asked = agreed.asked (suc item.0) from req item.1 item.2 item.3 item.4 in
    absurd (item.5 asked.0 asked.1 (record { there = asked.2; named = asked.3; numbered = asked.4 }) asked.5)
right_by s few once agreed (verdicts.Unlogged node number) says =
    let place = says.1.0 in
    let taken = says.1.1 in
    let line = says.1.2 in
    let there : slice_get (lines_of node s.logs) (count_of node (take place s.takes)) ≡ Some taken
    = ap (λ (ls : List Line). slice_get ls (count_of node (take place s.takes))) (sym (agreed.taken node))
    ∙ filter_at node s.takes place taken line.there line.named in
    absurd (says.1.3 taken there line.numbered refl)
right_by s few once agreed (verdicts.Untaken node number) says =
    let place = says.1.0 in
    let line = says.1.2 in
    let above = count_above node s.logs place says.1.1 line.there line.named in
    let same : count_of node s.takes ≡ count_of node s.logs
    = count_of_name_is_length node s.takes ∙ ap (λ (ls : List Line). length ls) (agreed.taken node) ∙ sym (count_of_name_is_length node s.logs) in
    absurd (omega (arith, above, same, says.1.3))
right_by s few once agreed verdicts.Agrees says = refl

pub agreed_reading_is_right : (s : Reading) → length s.group ≤ greatest_number → StandOnce s.group → Agreed s → is_right (verdict_of s) ≡ true
agreed_reading_is_right s few once agreed = right_by s few once agreed (verdict_of s) (verdict_says_what_holds s)
