-- A quiet world is quiet for each higher number that its sequencer has reached.
use Rattle.am_repair.proofs.RepairWords.{◌≡◌, inl, inr, ℕ, ◌<◌, ◌≤◌, true, length, Some, sym, subst, arith, cases_lt}
use Rattle.am_repair.proofs.RepairWords.{All, has, names_of, Letter, letter_at, Node, top, World, Repair, LeadsCalmly, FollowsView, Calm}
use Rattle.am_repair_takes.proofs.Words.{IsElsewhere}
use Rattle.am_repair.proofs.Schedules.{letter_number_le_length}
use Rattle.am_repair_takes.specs.Quiet.{GoesOnBySends, QuietIsRaised, raised}
use Rattle.am_repair_takes.proofs.Sums.{names_all}

leads_raised : (r : Repair) (w : World) (high : ℕ) (m : Node) → length r.members ≡ 16 → r.high ≤ high → high ≤ top m
    → GoesOnBySends r.members r.high m.core.log → LeadsCalmly r m → LeadsCalmly (raised r w high) m
leads_raised r w high m places low within goes h =
    let reached = h.reached in
    record {
      leads = h.leads;
      view_ = h.view_;
      number = h.number;
      rest = h.rest;
      high = within;
      reached = omega arith;
      fit = λ k e below is. goes.fit_ k e is;
      members_ = λ name k there above below. h.members_ name k there (omega arith) below;
      gone = h.gone;
      counted = λ k above below view. elim (cases_lt r.high k) [
        | inl new ↦ subst (λ set. All (λ name. has r.members name ≡ true) (names_of set)) (sym (goes.counted_ k new (omega arith)))
            (names_all (λ name. has r.members name ≡ true) r.members places (λ name there. there))
        | inr old ↦ h.counted k above (omega arith) view
      ];
    }

follows_raised : (r : Repair) (w : World) (high : ℕ) (q m : Node) → FollowsView r q m → FollowsView (raised r w high) q m
follows_raised r w high q m h = record { acts_ = h.acts_; view_ = h.view_; rest = h.rest; agrees = h.agrees }

elsewhere_raised : (r : Repair) (w : World) (high : ℕ) (m : Node) → IsElsewhere r m → IsElsewhere (raised r w high) m
elsewhere_raised r w high m (inl a) = inl (record { no_ballot = a.no_ballot; stays = a.stays; promised = a.promised })
elsewhere_raised r w high m (inr l) = inr (record { gone = l.gone; leaves = l.leaves; log = l.log; no_ballot = l.no_ballot; tells = l.tells })

-- no letter is later than all
none_later : (r : Repair) (w : World) (number : ℕ) (l : Letter) → length w.letters < number → letter_at w.letters number ≡ Some l → ⊥
none_later r w number l late there = let low = letter_number_le_length w.letters number l there in omega arith

calm_raised : (r : Repair) (w : World) (high : ℕ) → length r.members ≡ 16 → r.high ≤ high → high ≤ top (w.nodes r.by)
    → GoesOnBySends r.members r.high (w.nodes r.by).core.log → Calm r w → Calm (raised r w high) w
calm_raised r w high places low within goes h =
    record {
      nodes = record {
        own = h.own;
        listed = h.listed;
        who = h.who;
        leads = leads_raised r w high (w.nodes r.by) places low within goes h.leads;
        follows = λ name there other. follows_raised r w high (w.nodes r.by) (w.nodes name) (h.follows name there other);
      };
      current_ = h.current_;
      runs = h.runs;
      apart = λ name none runs here. elsewhere_raised r w high (w.nodes name) (h.apart name none runs here);
      letters = λ number l late there. absurd (none_later r w number l late there);
    }

pub quiet_is_raised : QuietIsRaised
quiet_is_raised r last total high w h low within =
    record {
      calm = calm_raised r w high h.places low within h.list h.calm;
      sent = omega arith;
      places = h.places;
      list = record {
        members_ = λ k above below. h.list.members_ k (omega arith) below;
        counted_ = λ k above below. h.list.counted_ k (omega arith) below;
        fit_ = h.list.fit_;
      };
      few = h.few;
      asks = h.asks;
      letters = λ number l late there. absurd (none_later r w number l late there);
      lasts = h.lasts;
    }
