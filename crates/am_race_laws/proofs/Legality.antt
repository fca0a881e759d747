-- A journal is legal where each of its records comes next.
use Rattle.am_race_laws.proofs.Words.{◌≡◌, ◌+◌, List, [], ◌∷◌, ◌++◌, map, Bool, true, false, true≢false, sym, refl, ap, ◌∙◌, subst, append-nil, append_assoc}
use Rattle.am_race_laws.proofs.Words.{drop, length, drop-append_seam, fold, Rules, Event, Record, World, start, world_with_record, world_with_step, happens, world_after_events}
use Rattle.am_race_laws.proofs.Words.{record_of, no_caller, with_tag, EventHappens, idles, stops, returns, steps, events_have_effects, tells, world_after, IsNext}
use Rattle.am_race_laws.proofs.Words.{EachIsNext}
use Rattle.am_base.specs.declared.outcome.Outcome.TheVariants as said

-- ---- what an event adds

record Adds (w w' : World) : Type 0 where
  pub item : Record
  pub untagged : with_tag no_caller item ≡ item
  pub records : w'.records ≡ w.records ++ item ∷ []
  pub letters : w'.letters ≡ w.letters ++ item.packets

adds : (w : World) (e : Event) (v : World) → EventHappens w e v → Adds w v
unfolding world_with_record world_with_step
adds w e v (idles o idle) = record { item = record_of w e o []; untagged = refl; records = refl; letters = sym (append-nil w.letters) }
adds w e v (stops runs) = record { item = record_of w e said.Stopped []; untagged = refl; records = refl; letters = sym (append-nil w.letters) }
adds w e v (returns place is left more) = record {
  item = record_of w e (said.Returned (w.lives place + 1)) [];
  untagged = refl;
  records = refl;
  letters = sym (append-nil w.letters);
}
adds w e v (steps c s runs cause effect) = record { item = record_of w e s.outcome s.letters; untagged = refl; records = refl; letters = refl }

happens_adds : (w : World) (e : Event) → Adds w (happens w e)
happens_adds w e = adds w e (happens w e) (events_have_effects w e)

-- ---- one record after the other

is_nil : List Record → Bool
is_nil [] = true
is_nil (r ∷ rs) = false

nil_is_no_cons : (r : Record) (rest : List Record) → [] ≡ r ∷ rest → ⊥
unfolding is_nil
nil_is_no_cons r rest e = true≢false (ap is_nil e)

-- the run of a journal's events from a world on has its records
LegalFrom : World → List Record → Type 0
LegalFrom w journal = (world_after_events w (map (λ r. r.event) journal)).records ≡ w.records ++ map (λ r. with_tag no_caller r) journal

NextAt : World → Record → Type 0
NextAt w r = (happens w r.event).records ≡ w.records ++ with_tag no_caller r ∷ []

cancel : (xs ys zs : List Record) → xs ++ ys ≡ xs ++ zs → ys ≡ zs
cancel xs ys zs e = sym (drop-append_seam xs ys) ∙ ap (drop (length xs)) e ∙ drop-append_seam xs zs

head_is : (x y : Record) (xs ys : List Record) → x ∷ xs ≡ y ∷ ys → x ≡ y
head_is x y xs ys e = cc

tail_is : (x y : Record) (xs ys : List Record) → x ∷ xs ≡ y ∷ ys → xs ≡ ys
tail_is x y xs ys e = ap (drop 1) e

-- a run only adds records
run_adds : (w : World) (events : List Event) → (more : List Record) × ((world_after_events w events).records ≡ w.records ++ more)
unfolding world_after_events
run_adds w [] = ([], sym (append-nil w.records))
run_adds w (e ∷ es) =
    let a = happens_adds w e in
    let r = run_adds (happens w e) es in
    (a.item ∷ r.0, r.1 ∙ ap (λ (l : List Record). l ++ r.0) a.records ∙ append_assoc w.records (a.item ∷ []) r.0)

-- what a record tells, where it is the one that its event adds
same_world : (w : World) (r : Record) → NextAt w r → tells w r ≡ happens w r.event
unfolding NextAt
same_world w r next =
    let a = happens_adds w r.event in
    let item : a.item ≡ with_tag no_caller r = head_is a.item (with_tag no_caller r) [] []
    (cancel w.records (a.item ∷ []) (with_tag no_caller r ∷ []) (sym a.records ∙ next)) in
    let letters : w.letters ++ r.packets ≡ (happens w r.event).letters = ap (λ (q : Record). w.letters ++ q.packets) (sym item) ∙ sym a.letters in
    λ i. record (happens w r.event) { letters = letters i }

pub told_record_is_its_event : (rules : Rules) (before : List Record) (r : Record) → IsNext rules before r → tells (world_after rules before) r
    ≡ happens (world_after rules before) r.event
unfolding NextAt
told_record_is_its_event rules before r next = same_world (world_after rules before) r next

-- the first record, and those after it
first_next : (w : World) (r : Record) (rest : List Record) → LegalFrom w (r ∷ rest) → NextAt w r × LegalFrom (happens w r.event) rest
unfolding LegalFrom NextAt world_after_events
first_next w r rest legal =
    let a = happens_adds w r.event in
    let m = run_adds (happens w r.event) (map (λ q. q.event) rest) in
    let whole = cancel w.records (a.item ∷ m.0) (with_tag no_caller r ∷ map (λ q. with_tag no_caller q) rest)
    (sym (m.1 ∙ ap (λ (l : List Record). l ++ m.0) a.records ∙ append_assoc w.records (a.item ∷ []) m.0) ∙ legal) in
    let item = head_is a.item (with_tag no_caller r) m.0 (map (λ q. with_tag no_caller q) rest) whole in
    let more = tail_is a.item (with_tag no_caller r) m.0 (map (λ q. with_tag no_caller q) rest) whole in
    (a.records ∙ ap (λ (q : Record). w.records ++ q ∷ []) item, m.1 ∙ ap (λ (l : List Record). (happens w r.event).records ++ l) more)

next_first : (w : World) (r : Record) (rest : List Record) → NextAt w r → LegalFrom (happens w r.event) rest → LegalFrom w (r ∷ rest)
unfolding LegalFrom NextAt world_after_events
next_first w r rest next legal = legal ∙ ap (λ (l : List Record). l ++ map (λ q. with_tag no_caller q) rest) next
    ∙ append_assoc w.records (with_tag no_caller r ∷ []) (map (λ q. with_tag no_caller q) rest)

-- each record comes next
AllNext : World → List Record → Type 0
AllNext w journal = (before rest : List Record) (r : Record) → journal ≡ before ++ r ∷ rest → NextAt (fold tells w before) r

all_next : (w : World) (journal : List Record) → LegalFrom w journal → AllNext w journal
unfolding AllNext
all_next w [] legal [] rest r e = absurd (nil_is_no_cons r rest e)
all_next w [] legal (b ∷ before) rest r e = absurd (nil_is_no_cons b (before ++ r ∷ rest) e)
all_next w (q ∷ journal) legal [] rest r e = subst (NextAt w) (head_is q r journal rest e) (first_next w q journal legal).0
all_next w (q ∷ journal) legal (b ∷ before) rest r e =
    let f = first_next w q journal legal in
    let s = same_world w q f.0 in
    let go : AllNext (tells w q) journal = all_next (tells w q) journal (subst (λ (x : World). LegalFrom x journal) (sym s) f.1) in
    subst (λ (x : Record). NextAt (fold tells (tells w x) before) r) (head_is q b journal (before ++ r ∷ rest) e)
    (go before rest r (tail_is q b journal (before ++ r ∷ rest) e))

legal_from : (w : World) (journal : List Record) → AllNext w journal → LegalFrom w journal
unfolding AllNext LegalFrom world_after_events
legal_from w [] each = sym (append-nil w.records)
legal_from w (r ∷ journal) each =
    let next : NextAt w r = each [] journal r refl in
    let rest : LegalFrom (tells w r) journal = legal_from (tells w r) journal
    (λ before more q e. each (r ∷ before) more q (ap (λ (l : List Record). r ∷ l) e)) in
    next_first w r journal next (subst (λ (x : World). LegalFrom x journal) (same_world w r next) rest)

pub legal_records_come_next : EachIsNext
unfolding world_after AllNext LegalFrom NextAt
legal_records_come_next rules journal = ((λ legal. all_next (start rules) journal (sym legal)), λ each. sym (legal_from (start rules) journal each))
