use Rattle.am_shared_journal.proofs.Words.{rules, ◌≡◌, ℕ, List, ◌<◌, [], ◌∷◌, ◌++◌, length, sym, ap, ◌∙◌, arith, most_events_of_run, rest, Record, Page, Sat, HasTurn}
use Rattle.am_shared_journal.proofs.Keeps.{rule_allows_count_of_record}
use Rattle.am_shared_journal.proofs.wire.SharedJournal.add.Goals as goal

pub slot_mut-sheet-requires : goal.slot_mut-sheet-requires
slot_mut-sheet-requires g c = let t = c.requires.turn.page in (
  search rules,
  (_, t ∙ sym (ap (λ (z : List (ℕ × Page)). (0, record { founding = c.args.seat.now.me.0.terms.founding; records = c.args.seat.now.me.0.seen }) ∷ rest z) t)),
)

-- the page that the seat then carries
carries : (m : Sat) (item : Record) (old new : Page) → HasTurn m → m.1 ≡ (0, old) ∷ rest m.1 → new.founding ≡ old.founding
    → new.records ≡ old.records ++ item ∷ []
    → (0, new) ∷ rest m.1 ≡ (0, record { founding = m.0.terms.founding; records = m.0.seen ++ item ∷ [] }) ∷ []
carries m item old new has held founded added =
    let is : old ≡ record { founding = m.0.terms.founding; records = m.0.seen } = ap first_page (sym held ∙ has.page) in
    let alone : rest m.1 ≡ [] = ap rest has.page in
    let f : new.founding ≡ m.0.terms.founding = founded ∙ ap (λ (p : Page). p.founding) is in
    let r : new.records ≡ m.0.seen ++ item ∷ [] = added ∙ ap (λ (p : Page). p.records ++ item ∷ []) is in
    λ i. (0, record { founding = f i; records = r i }) ∷ alone i
  where
    first_page : List (ℕ × Page) → Page
    first_page [] = old
    first_page (x ∷ xs) = x.1

held_records : (m : Sat) (old : Page) → HasTurn m → m.1 ≡ (0, old) ∷ rest m.1 → old.records ≡ m.0.seen
held_records m old has held = ap records_in (sym held ∙ has.page)
  where
    records_in : List (ℕ × Page) → List Record
    records_in [] = old.records
    records_in (x ∷ xs) = x.1.records

pub fetch_add-requires : goal.fetch_add-requires
fetch_add-requires g c =
    let m : Sat = c.args.seat.now.me in
    let has : HasTurn m = c.requires.turn in
    let held : m.1 ≡ (0, c.slot_mut-sheet.result.now) ∷ rest m.1 = c.slot_mut-sheet.ensures.value in
    let added : c.add.new.self.records ≡ c.slot_mut-sheet.result.now.records ++ c.args.item ∷ [] = search rules in
    let page = carries m c.args.item c.slot_mut-sheet.result.now c.add.new.self has held c.add.ensures.founding added in
    let same : length c.slot_mut-sheet.result.now.records ≡ length m.0.seen = ap length (held_records m c.slot_mut-sheet.result.now has held) in
    let found : c.len-count.result ≡ length c.slot_mut-sheet.result.now.records = c.len-count.ensures.value in
    let below : c.len-count.result < most_events_of_run = c.if-count-ge-MOST_EVENTS.false in (
      search rules,
      search rules,
      rule_allows_count_of_record _ _ _ _ _ c.args.item (record {
        turn = has.turn;
        page = page;
        room = omega arith;
        place = c.requires.place;
        caller = c.requires.caller;
        lawful = c.requires.next;
      }),
    )
