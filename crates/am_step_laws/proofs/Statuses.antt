-- Who has a list, by its status.
use Rattle.am_step_laws.proofs.EffectWords.{◌≡◌, true, false, refl, Status, is_member, is_asking_status, has_log_by_status}
use Rattle.am_model.specs.declared.status.Status.TheVariants as status

-- a member has one
pub member_status_has_log : (s : Status) → is_member s ≡ true → has_log_by_status s ≡ true
member_status_has_log status.Member t = refl
member_status_has_log _ t = absurd (cc)

-- who asks to join has none
pub asking_status_has_no_log : (s : Status) → is_asking_status s ≡ true → has_log_by_status s ≡ false
asking_status_has_no_log status.Asking t = refl
asking_status_has_no_log _ t = absurd (cc)
