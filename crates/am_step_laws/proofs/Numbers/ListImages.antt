-- What a node's list begins with tells of nothing above its start.
use Rattle.am_step_laws.proofs.Words.{◌≡◌, sym, subst, Log, Outcome, Leave, Packet, Node, Ballot, push_entry, BallotVerdict, refresh, refresh_at_end, Cause, hears}
use Rattle.am_step_laws.proofs.Words.{LooksAtBallot, finds_itself_out, Change, refreshes, settles, begins_list, looks, closes, Changes, refresh_rests_with_list, end_refresh_rests_with_list}
use Rattle.am_step_laws.proofs.Words.{settle_changes_only_sends, changes_keep_property}
use Rattle.am_packet.specs.declared.packet.Packet.TheVariants as packet
use Rattle.am_step_laws.proofs.Numbers.Images.{ImageIsUpTo}

-- a Welcome tells of nothing above its base
abbrev pub WelcomeImageUpToBase : Packet → Type 0
WelcomeImageUpToBase (packet.Welcome s v base join image) = ImageIsUpTo base image
WelcomeImageUpToBase _ = Unit {0}

abbrev pub FirstImageUpToStart : Node → Type 0
FirstImageUpToStart m = ImageIsUpTo m.core.log.start m.core.log.image

-- with the same list
same_list : (m n : Node) → n.core.log ≡ m.core.log → FirstImageUpToStart m → FirstImageUpToStart n
same_list m n is h = subst (λ (l : Log). ImageIsUpTo l.start l.image) (sym is) h

look_list : (m : Node) (b : Ballot) (v : BallotVerdict) → LooksAtBallot m b v → FirstImageUpToStart m → FirstImageUpToStart v.node
look_list m b v (finds_itself_out x) h = h
look_list m b v _ h = h

-- of what is heard
abbrev HeardUp : Cause → Type 0
HeardUp c = (p : Packet) → c ≡ hears p → WelcomeImageUpToBase p

change_list : {c : Cause} {o : Outcome} → HeardUp c → (m n : Node) → Change c o m n → FirstImageUpToStart m → FirstImageUpToStart n
change_list heard m n refreshes h = same_list m (refresh m) (refresh_rests_with_list m).log h
change_list heard m n settles h = subst FirstImageUpToStart (sym (settle_changes_only_sends m)) h
change_list heard m n (begins_list s v base join image is o may) h = heard (packet.Welcome s v base join image) is
change_list heard m n (looks b verdict over why look is) h = look_list m b verdict look h
change_list heard m n (closes leads leaves alone room) h = same_list (push_entry m (Leave m.core.who)) (refresh_at_end (push_entry m (Leave m.core.who)))
    (end_refresh_rests_with_list (push_entry m (Leave m.core.who))).log h
change_list heard m n _ h = h

pub changes_keep_first_image_low : {c : Cause} {o : Outcome} (m n : Node) → HeardUp c → Changes c o m n → FirstImageUpToStart m → FirstImageUpToStart n
changes_keep_first_image_low m n heard all h = changes_keep_property FirstImageUpToStart (change_list heard) all h
