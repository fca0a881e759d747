-- What a pass to a shared journal knows of it.
use Rattle.std.specs.Prelude.{◌≡◌, ℕ, ◌+◌, ◌<◌, ◌≤◌, List, [], ◌∷◌, ◌++◌, length, true, All, sum_by}
use Rattle.am_base.specs.Most.{most_events_of_run}
use Rattle.am_base.specs.Names.{place_of_name}
use Rattle.atomic_table.specs.Seated.{TableId}
use Rattle.am_group.specs.declared.event.Record.{Record}
use Rattle.am_shared_journal_defs.specs.declared.terms.SharerKey.{SharerKey}
use Rattle.am_shared_journal_defs.specs.declared.terms.SharerKey.TheVariants.{Place, Caller}
use Rattle.am_shared_journal_defs.specs.declared.terms.Terms.{Terms}
use Rattle.am_shared_journal_defs.specs.Keys.{times, is_key}
use Rattle.am_shared_journal_defs.specs.Sights.{GoesOn, EachComesNext, longer_list}

-- a pass: of which wire it is, by which terms, whose records it knows, and what it has seen of the journal
pub record Known : Type 0 where
  pub wire : TableId
  pub terms : Terms
  pub keys : List SharerKey
  pub seen : List Record

-- a pass with one key, which has seen nothing
abbrev pub fresh : TableId → Terms → SharerKey → Known
fresh wire terms key = record { wire = wire; terms = terms; keys = key ∷ []; seen = [] }

-- a pass has each key of a wire
abbrev pub HasEachKey : ℕ → List SharerKey → Type 0
HasEachKey callers keys = (key : SharerKey) → is_key callers key ≡ true → 0 < times key keys

-- the same pass, whose journal went on from what it had seen, with no record more of its keys
pub record Sees (p p' : Known) : Type 0 where
  pub wire : p'.wire ≡ p.wire
  pub terms : p'.terms ≡ p.terms
  pub keys : p'.keys ≡ p.keys
  pub goes : GoesOn p.keys p.seen p'.seen

-- a pass with the keys of both, that has seen what either had
pub record Joined (p q p' : Known) : Type 0 where
  pub wire : p'.wire ≡ p.wire
  pub terms : p'.terms ≡ p.terms
  pub keys : p'.keys ≡ q.keys ++ p.keys
  pub seen : p'.seen ≡ longer_list p.seen q.seen
  pub first : GoesOn p.keys p.seen p'.seen
  pub second : GoesOn q.keys q.seen p'.seen

-- what a commit of a record wants of a pass and a share: whatever others added meanwhile, the record comes next
pub record IsReady (next : List Record → Record → Type 0) (wire : TableId) (p q : Known) (item : Record) : Type 0 where
  pub own : (p.wire ≡ wire) × (q.wire ≡ wire)
  pub terms : q.terms ≡ p.terms
  pub place : p.keys ≡ Place (place_of_name item.event.node) ∷ []
  pub caller : q.keys ≡ Caller item.by.caller ∷ []
  pub few : length item.packets ≤ 24
  pub next_ : (before : List Record) → GoesOn p.keys p.seen before → GoesOn q.keys q.seen before → EachComesNext next before → next before item

-- the record was added to the journal, which both have then seen: what was there before went on from what each had seen
pub record Committed (next : List Record → Record → Type 0) (p q : Known) (item : Record) (count : ℕ) (p' q' : Known) : Type 0 where
  pub before : List Record
  pub room : length before < most_events_of_run
  pub number : count ≡ length before + 1
  pub pass : GoesOn p.keys p.seen before
  pub share : GoesOn q.keys q.seen before
  pub lawful : EachComesNext next before
  pub pass_after : p' ≡ record p { seen = before ++ item ∷ [] }
  pub share_after : q' ≡ record q { seen = before ++ item ∷ [] }

-- what several passes knew, joined into one: it has their keys, and its journal went on from what each had seen
pub record Gathered (made : List Known) (p : Known) : Type 0 where
  pub keys : (key : SharerKey) → times key p.keys ≡ sum_by (λ q. times key q.keys) made
  pub goes : All (λ q. GoesOn q.keys q.seen p.seen) made
