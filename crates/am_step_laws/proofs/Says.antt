-- What letters say of a node, once the step is done.
use Rattle.am_step_laws.proofs.EffectWords.{◌≡◌, ℕ, ◌+◌, ◌==◌, ◌&&◌, true, false, zero, suc, ◌-◌, ◌≤◌, List, [], ◌∷◌, drop, length, Some, slice_get, refl, sym, ap}
use Rattle.am_step_laws.proofs.EffectWords.{◌∙◌, arith, length-append, slice_get_within, Stamp, Image, Entry, Data, Join, Leave, View, stamps_are_equal, life_of_name, row_at_place}
use Rattle.am_step_laws.proofs.EffectWords.{after, image_after_entries, Packet, Letter, with_letter, slice_get-drop, OwnSend, Node, top, image_of_node, view, acts_in_its_view, is_member}
use Rattle.am_step_laws.proofs.EffectWords.{is_sequencer, push_entry, waiting_send_of, entries_to_serve, letters_of_entries, request_packet_of, spread_packet_of, bcast_packet_of, ack_packet_of, nack_packet_of, is_view}
use Rattle.am_step_laws.proofs.EffectWords.{fold_append, split_on_bool, Cause, HasOwnSend, EntryStands, Says, request, spread, bcast, ack, nack}
use Rattle.am_node_defs.specs.Sends as own
use Rattle.am_step_laws.proofs.{Items.found_item_has_index, Items.slice_get_of_pushed, Items.slice_get_of_take, Rests.RestsButForOwnLeave, Rests.RestsWithWholeList, Rests.acts_after_rest, Rests.is_sequencer_after_rest}
use Rattle.am_step_laws.proofs.{Rests.entry_stands_after_rest, Rests.leave_keeps_image_view, Plans.AllLettersSay, Plans.nothing_said_without_letters, Plans.letters_say_with_one_more, Plans.LetterTellsAfterStep}

-- ---- a node's own sends

pub waiting_send_is_in_queue : (m : Node) (s : OwnSend) → waiting_send_of m ≡ Some s → HasOwnSend m s.req s.body
waiting_send_is_in_queue m s is = let f = found_item_has_index own.is_unsettled m.sends.queue s is in record { index = f.0; send = s; there = f.1; request = refl; body_ = refl }

-- ---- an entry more

view_after : (image : Image) (number : ℕ) (e : Entry) → is_view e ≡ false → (after image number e).view ≡ image.view
unfolding after
view_after image number (Data from req body) f = split_on_bool ((row_at_place image from).life == life_of_name from) (λ t. rw t refl) (λ g. rw g refl)
view_after image number (Join name) f = refl
view_after image number (Leave name) f = leave_keeps_image_view image number name
view_after image number (View v) f = absurd (cc)

-- what the list tells with an entry more
pub image_of_pushed_entry : (m : Node) (e : Entry) → image_of_node (push_entry m e) ≡ after (image_of_node m) (top m + 1) e
unfolding image_after_entries
image_of_pushed_entry m e =
    let z : m.core.log.start + 1 + length m.core.log.entries ≡ top m + 1 = omega arith in
    fold_append m.core.log.image (m.core.log.start + 1) m.core.log.entries (e ∷ []) ∙ ap (λ k. after (image_of_node m) k e) z

pub view_of_pushed_plain_entry : (m : Node) (e : Entry) → is_view e ≡ false → view (push_entry m e) ≡ view m
view_of_pushed_plain_entry m e f = ap (λ (i : Image). i.view) (image_of_pushed_entry m e) ∙ view_after (image_of_node m) (top m + 1) e f

pub acts_after_pushed_entry : (m : Node) (e : Entry) → is_view e ≡ false → acts_in_its_view (push_entry m e) ≡ acts_in_its_view m
acts_after_pushed_entry m e f = ap (λ (v : Stamp). is_member m.status && stamps_are_equal m.core.promise v) (view_of_pushed_plain_entry m e f)

pub is_sequencer_after_pushed_entry : (m : Node) (e : Entry) → is_view e ≡ false → is_sequencer (push_entry m e) ≡ is_sequencer m
is_sequencer_after_pushed_entry m e f = λ i. acts_after_pushed_entry m e f i && ((view_of_pushed_plain_entry m e f i).by == m.core.who)

pub pushed_entry_stands_at_top : (m : Node) (base : ℕ) (e : Entry) → EntryStands (push_entry m e).core.log base (top m + 1) e
pushed_entry_stands_at_top m base e = record {
  index = length m.core.log.entries;
  there = slice_get_of_pushed m.core.log.entries e;
  at = λ low. omega arith;
  within = simp length-append (omega arith);
}

-- ---- letters

pub request_tells_after_step : (m : Node) (c : Cause) (p : Node) (to : List ℕ) (req : ℕ) (body : List ℕ) → acts_in_its_view p ≡ true → is_sequencer p ≡ false → HasOwnSend p req body
    → LetterTellsAfterStep RestsButForOwnLeave m c p to (λ n. request_packet_of n req body)
request_tells_after_step m c p to req body a f h n r = request to req body (acts_after_rest r ∙ a) (is_sequencer_after_rest r ∙ f) (r.sends req body h)

pub spread_tells_after_step : (m : Node) (c : Cause) (p : Node) (to : List ℕ) (req : ℕ) (body : List ℕ) → acts_in_its_view p ≡ true → is_sequencer p ≡ false → HasOwnSend p req body
    → LetterTellsAfterStep RestsButForOwnLeave m c p to (λ n. spread_packet_of n req body)
spread_tells_after_step m c p to req body a f h n r = spread to req body (acts_after_rest r ∙ a) (is_sequencer_after_rest r ∙ f) (r.sends req body h)

-- the entry that is numbered
pub bcast_tells_after_step : (m : Node) (c : Cause) (p : Node) (to : List ℕ) (e : Entry) → is_sequencer p ≡ true → is_view e ≡ false
    → LetterTellsAfterStep RestsButForOwnLeave m c (push_entry p e) to (λ n. bcast_packet_of n (top p + 1) e)
bcast_tells_after_step m c p to e leads plain n r = bcast to (top p + 1) e (is_sequencer_after_rest r ∙ is_sequencer_after_pushed_entry p e plain
    ∙ leads) (entry_stands_after_rest m.core.base (top p + 1) e r (pushed_entry_stands_at_top p m.core.base e))

pub ack_tells_after_step : (m : Node) (c : Cause) (p : Node) (to : List ℕ) → acts_in_its_view p ≡ true → LetterTellsAfterStep RestsWithWholeList m c p to ack_packet_of
ack_tells_after_step m c p to a n r = ack to (acts_after_rest r.rests ∙ a)

pub nack_tells_after_step : (m : Node) (c : Cause) (p : Node) (to : List ℕ) → acts_in_its_view p ≡ true → LetterTellsAfterStep RestsWithWholeList m c p to nack_packet_of
nack_tells_after_step m c p to a n r = nack to (acts_after_rest r.rests ∙ a)

-- ---- entries sent again

says_each : (m : Node) (c : Cause) (n : Node) (packet : ℕ → Entry → Packet) (to : List ℕ) (number : ℕ) (es : List Entry) (letters : List Letter)
    → ((i k : ℕ) (e : Entry) → slice_get es i ≡ Some e → k ≡ number + i → Says m c n to (packet k e)) → AllLettersSay m c n letters
    → AllLettersSay m c n (letters_of_entries packet to number es letters)
unfolding letters_of_entries
says_each m c n packet to number [] letters f h = h
says_each m c n packet to number (e ∷ es) letters f h =
    says_each m c n packet to (number + 1) es (with_letter to (packet number e) letters) (λ i k x there is. f (suc i) k x there (omega arith))
    (letters_say_with_one_more m c n to (packet number e) letters (f zero number e refl (omega arith)) h)

-- a letter for each entry that stands above a number
pub served_entries_say : (m : Node) (c : Cause) (p n : Node) (packet : ℕ → Entry → Packet) (to : List ℕ) (low : ℕ) → m.core.base ≤ low → RestsButForOwnLeave p n
    → ((k : ℕ) (e : Entry) → EntryStands n.core.log m.core.base k e → Says m c n to (packet k e))
    → AllLettersSay m c n (letters_of_entries packet to (low + 1) (entries_to_serve p low) [])
served_entries_say m c p n packet to low above r f =
    let skip = low - p.core.log.start in
    says_each m c n packet to (low + 1) (entries_to_serve p low) []
    (λ i k e there is.
    let at = sym (slice_get-drop skip i p.core.log.entries) ∙ slice_get_of_take 8 (drop skip p.core.log.entries) i e there in
    f k e (entry_stands_after_rest m.core.base k e r (record {
      index = skip + i;
      there = at;
      at = λ b. omega arith;
      within = let few =
          slice_get_within p.core.log.entries (skip + i) e at in omega arith;
    })))
    (nothing_said_without_letters m c n)
