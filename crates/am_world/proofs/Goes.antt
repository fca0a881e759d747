-- A world goes on as its run.
use Rattle.am_world.proofs.Words.{◌≡◌, ℕ, ◌+◌, ◌<◌, ◌≤◌, Bool, List, [], ◌∷◌, ◌++◌, length, map, refl, sym, ap, ◌∙◌, subst, arith, length-append, append-nil}
use Rattle.am_world.proofs.Words.{map_push, length-map, most_events_of_run, Entry, Outcome, Rules, MayFound, place_of_name, life_of_name, Letter, Event, Record, letters_of_records}
use Rattle.am_world.proofs.Words.{letters_of_pushed_record, happens, world_after_events, record_of, current, start, world_with_record, has_departed, IsEndOf, Status, Result, Ok}
use Rattle.am_world.proofs.Words.{Err, Asked, OnStep, IfOk, runs_go_on, Node, Play, replay, play_after, AreNodes, AreLives, AreFlags, Shows, IsRun, play_of, record_without_caller}
use Rattle.am_world.proofs.Words.{EventIsAnswered, event_or_answer, comes, SpellsPacket}
use Rattle.am_group_defs.specs.World as model
use Rattle.am_model.specs.Node as protocol
use Rattle.am_step_laws.proofs.Watching.Fresh.{life_of_name_at}
use Rattle.am_world.proofs.Comes.{event_comes_to_asked}

-- what holds of a value by two facts of it
pub if_ok_with_both : {A E : Type 0} (r : Result A E) (P Q S : A → Type 0) → ((x : A) → P x → Q x → S x) → IfOk r P → IfOk r Q → IfOk r S
if_ok_with_both (Ok x) P Q S f p q = f x p q
if_ok_with_both (Err e) P Q S f p q = p

-- the run of one event more
pub replay_with_next_event : (p : Play) (event : Event) → replay (play_after p event) ≡ happens (replay p) event
unfolding world_after_events
replay_with_next_event p event = runs_go_on (start p.rules) p.events (event ∷ [])

-- what one record more was made by
pub play_of_one_record_more : (rules : Rules) (records : List Record) (r : Record) → play_of rules (records ++ r ∷ []) ≡ play_after (play_of rules records) r.event
play_of_one_record_more rules records r = ap (λ es. record { rules = rules; events = es }) (map_push (λ (x : Record). x.event) records r)

-- what a journal's record is, and that it stands last
pub record EventIsRecorded (w : model.World) (e : Event) (outcome : Outcome) (letters : List Letter) (first founding : Rules)
    (records pushed : List Record) : Type 0 where
  pub founding_ : founding ≡ first
  pub pushed_ : pushed ≡ records ++ record_of w e outcome letters ∷ []

-- by what the code does: it makes room, makes the record, and adds it
pub event_is_recorded_in_play : (w : model.World) (e : Event) (outcome : Outcome) (letters : List Letter) {lives : List ℕ} {name life : ℕ} {r : Record} {first founding : Rules}
    {records reserved pushed : List Record} → AreLives lives w → name ≡ current w (place_of_name e.node) → life ≡ life_of_name name
    → r ≡ record_without_caller e life outcome letters → founding ≡ first → reserved ≡ records → pushed ≡ reserved ++ r ∷ []
    → EventIsRecorded w e outcome letters first founding records pushed
event_is_recorded_in_play w e outcome letters {life} {r} {records} living here old made same kept added =
    let place = place_of_name e.node in
    let within : place < 16 = omega arith in
    let now : life ≡ w.lives place = old ∙ ap life_of_name here ∙ life_of_name_at place (w.lives place) within (living.within place within).0 in
    record {
      founding_ = same;
      pushed_ = added ∙ ap (λ rs. rs ++ r ∷ []) kept ∙ ap (λ x. records ++ x ∷ []) (made ∙ ap (λ l. record_without_caller e l outcome letters) now);
    }

-- the world after an event, by what came of it
pub record WorldFollowsEvent (w v : model.World) (e : Event) (outcome : Outcome) (letters : List Letter) : Type 0 where
  pub happens_ : happens w e ≡ v
  pub records : v.records ≡ w.records ++ record_of w e outcome letters ∷ []
  pub letters_ : v.letters ≡ w.letters ++ letters

pub world_that_follows_carries_on : (p : Play) (first founding : Rules) (nodes more : List Node) (lives longer : List ℕ) (flags set : List Bool) (records pushed : List Record)
    (group grown : List Entry) (e : Event) (outcome : Outcome) (letters : List Letter) (v : model.World)
    → play_of first records ≡ p → IsRun (play_of first records) nodes lives flags records group → length p.events < most_events_of_run
    → EventIsRecorded (replay p) e outcome letters first founding records pushed → WorldFollowsEvent (replay p) v e outcome letters
    → AreNodes more v → AreLives longer v → AreFlags set v → grown ≡ v.group → length grown ≤ 2 + length p.events
    → IsRun (play_of founding pushed) more longer set pushed grown × EventIsAnswered p e outcome
world_that_follows_carries_on p first founding nodes more lives longer flags set records pushed group grown e outcome letters v view ok few
    recorded follows standing living stopped agreed short =
    let w = replay p in
    let r = record_of w e outcome letters in
    let same : play_of founding pushed ≡ play_after p e = ap (λ f. play_of f pushed) recorded.founding_ ∙ ap (play_of first) recorded.pushed_
    ∙ play_of_one_record_more first records r ∙ ap (λ q. play_after q e) view in
    let now : replay (play_after p e) ≡ v = replay_with_next_event p e ∙ follows.happens_ in
    let was : Shows w nodes lives flags records group = subst (λ (q : Play). Shows (replay q) nodes lives flags records group) view ok.shows in
    let founded : MayFound p.rules = subst (λ (q : Play). MayFound q.rules) view ok.founded in
    let l = length-append p.events (e ∷ []) in
    let shows : Shows v more longer set pushed grown = record {
      standing = standing;
      living = living;
      stopped = stopped;
      recorded = recorded.pushed_ ∙ ap (λ rs. rs ++ r ∷ []) was.recorded ∙ sym follows.records;
      sent = ap letters_of_records recorded.pushed_ ∙ letters_of_pushed_record records r ∙ ap (λ ls. ls ++ letters) was.sent ∙ sym follows.letters_;
      agreed = agreed;
    } in (
      subst (λ q. IsRun q more longer set pushed grown) (sym same) (record {
        founded = founded;
        few = omega arith;
        short = omega arith;
        shows = subst (λ u. Shows u more longer set pushed grown) (sym now) shows;
      }),
      (letters, ap (λ (u : model.World). u.records) now ∙ follows.records),
    )

-- ---- an event that changes no node

passes_nodes : (w : model.World) (e : Event) (outcome : Outcome) (nodes : List Node) → AreNodes nodes w → AreNodes nodes (world_with_record w e outcome)
unfolding world_with_record
passes_nodes w e outcome nodes h = record { count = h.count; each = h.each }

passes_lives : (w : model.World) (e : Event) (outcome : Outcome) (lives : List ℕ) → AreLives lives w → AreLives lives (world_with_record w e outcome)
unfolding world_with_record
passes_lives w e outcome lives h = record { count = h.count; each = h.each; within = h.within }

passes_flags : (w : model.World) (e : Event) (outcome : Outcome) (flags : List Bool) → AreFlags flags w → AreFlags flags (world_with_record w e outcome)
unfolding world_with_record
passes_flags w e outcome flags h = record { count = h.count; each = h.each }

passes_follows : (w : model.World) (e : Event) (outcome : Outcome) → happens w e ≡ world_with_record w e outcome
    → WorldFollowsEvent w (world_with_record w e outcome) e outcome []
unfolding world_with_record
passes_follows w e outcome is = record { happens_ = is; records = refl; letters_ = sym (append-nil w.letters) }

passes_group : (w : model.World) (e : Event) (outcome : Outcome) → (world_with_record w e outcome).group ≡ w.group
unfolding world_with_record
passes_group w e outcome = refl

pub answer_carries_play_on : (p : Play) (first founding : Rules) (nodes : List Node) (lives : List ℕ) (flags : List Bool) (records pushed : List Record)
    (group : List Entry) (e : Event) (outcome : Outcome)
    → play_of first records ≡ p → IsRun (play_of first records) nodes lives flags records group → length p.events < most_events_of_run
    → EventIsRecorded (replay p) e outcome [] first founding records pushed → happens (replay p) e ≡ world_with_record (replay p) e outcome
    → IsRun (play_of founding pushed) nodes lives flags pushed group × EventIsAnswered p e outcome
answer_carries_play_on p first founding nodes lives flags records pushed group e outcome view ok few recorded is =
    let w = replay p in
    let was : Shows w nodes lives flags records group = subst (λ (q : Play). Shows (replay q) nodes lives flags records group) view ok.shows in
    let short : length group ≤ 1 + length p.events = subst (λ (q : Play). length group ≤ 1 + length q.events) view ok.short in
    world_that_follows_carries_on p first founding nodes nodes lives lives flags flags records pushed group group e outcome [] (world_with_record w e outcome) view ok few recorded
    (passes_follows w e outcome is)
    (passes_nodes w e outcome nodes was.standing) (passes_lives w e outcome lives was.living) (passes_flags w e outcome flags was.stopped) (was.agreed
    ∙ sym (passes_group w e outcome)) (omega arith)

-- what a world of the code keeps of the run that contracts see
pub play_shows_its_replay : (p : Play) (first : Rules) (nodes : List Node) (lives : List ℕ) (flags : List Bool) (records : List Record) (group : List Entry)
    → play_of first records ≡ p → IsRun (play_of first records) nodes lives flags records group → Shows (replay p) nodes lives flags records group
play_shows_its_replay p first nodes lives flags records group view ok = subst (λ (q : Play). Shows (replay q) nodes lives flags records group) view ok.shows

pub lives_of_replay_are_kept : (p : Play) (first : Rules) (nodes : List Node) (lives : List ℕ) (flags : List Bool) (records : List Record) (group : List Entry)
    → play_of first records ≡ p → IsRun (play_of first records) nodes lives flags records group → AreLives lives (replay p)
lives_of_replay_are_kept p first nodes lives flags records group view ok = (play_shows_its_replay p first nodes lives flags records group view ok).living

-- what was asked comes to what the run makes of it
pub asked_event_comes_in_replay : (p : Play) (first : Rules) (nodes : List Node) (lives : List ℕ) (flags : List Bool) (records : List Record) (group : List Entry) (e : Event)
    (m : protocol.Node) (status : Status) (departed : Bool) (name : ℕ) (r : Asked)
    → play_of first records ≡ p → IsRun (play_of first records) nodes lives flags records group
    → name ≡ current (replay p) (place_of_name e.node) → IsEndOf ((replay p).nodes (current (replay p) (place_of_name e.node))) m → status ≡ m.status
    → departed ≡ has_departed status
    → r ≡ event_or_answer (letters_of_records records) flags departed name e.act → OnStep r (SpellsPacket (letters_of_records records) e.act)
    → happens (replay p) e ≡ comes (replay p) e r
asked_event_comes_in_replay p first nodes lives flags records group e m status departed name r view ok here end stands gone is spells =
    let w = replay p in
    let place = place_of_name e.node in
    let within : place < 16 = omega arith in
    let was = play_shows_its_replay p first nodes lives flags records group view ok in
    let gone_is : departed ≡ has_departed (w.nodes (current w place)).status = gone
    ∙ ap has_departed (stands ∙ ap (λ (n : protocol.Node). n.status) end.same) in
    let now : r ≡ event_or_answer w.letters flags (has_departed (w.nodes (current w place)).status) (current w place) e.act =
    is ∙ ap (λ ls. event_or_answer ls flags departed name e.act) was.sent ∙ ap (λ d. event_or_answer w.letters flags d name e.act) gone_is
    ∙ ap (λ k. event_or_answer w.letters flags (has_departed (w.nodes (current w place)).status) k e.act) here in
    let packets : OnStep r (SpellsPacket w.letters e.act) = subst (λ ls. OnStep r (SpellsPacket ls e.act)) was.sent spells in
    event_comes_to_asked w e flags was.stopped.each within (was.living.within place within).0 (subst (λ q. OnStep q (SpellsPacket w.letters e.act)) now packets)
    ∙ ap (comes w e) (sym now)

counted : (records : List Record) → length (map (λ (r : Record). r.event) records) ≡ length records
counted records = simp length-map

pub events_as_many_as_records : (p : Play) (first : Rules) (records : List Record) → play_of first records ≡ p → length p.events ≡ length records
events_as_many_as_records p first records view = ap (λ (q : Play). length q.events) (sym view) ∙ counted records

pub play_events_le_most : (p : Play) (first : Rules) (nodes : List Node) (lives : List ℕ) (flags : List Bool) (records : List Record) (group : List Entry)
    → play_of first records ≡ p → IsRun (play_of first records) nodes lives flags records group → length p.events ≤ most_events_of_run
play_events_le_most p first nodes lives flags records group view ok = subst (λ (q : Play). length q.events ≤ most_events_of_run) view ok.few
