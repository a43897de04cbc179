-- The heads of the first two forms, by the definitions of every form, are those by their own.
use Rattle.st_lemmas.proofs.Words
use Words.{◌≡◌, ℕ, Bool, true, false, ◌&&◌, ◌||◌, ◌==◌, refl, sym, ap, ◌∙◌, if◌then◌else◌, eqb-true}
use Words.{Config}
use Words.Tables.{and_true}
use Words.Safety as safety
use Rattle.st_third.specs.declared.limits.Limits.{Limits}
use Rattle.st_third.specs.Limits.{IsHead, are_first, are_limits, first_limits, is_form, is_third, is_within}
use Rattle.st_third.specs.Limits.{most_blocks, most_clients, most_disks, most_servers}
use Rattle.st_laws_third.specs.FirstForms.{FirstHeadsStay}

module _ (form : ℕ) (f : is_third form ≡ false) where
  clients_are : most_clients form ≡ 16
  unfolding most_clients
  clients_are = ap (λ b. if b then 64 else 16) f

  servers_are : most_servers form ≡ 4
  unfolding most_servers
  servers_are = ap (λ b. if b then 8 else 4) f

  disks_are : most_disks form ≡ 8
  unfolding most_disks
  disks_are = ap (λ b. if b then 16 else 8) f

  blocks_are : most_blocks form ≡ 4096
  unfolding most_blocks
  blocks_are = ap (λ b. if b then 268435456 else 4096) f

  -- with the limits of the first two forms a form is known if it was
  form_with : (a b g : Bool) → (a && g) || b ≡ true → (a && (g && true)) || ((b && true) || (false && are_limits first_limits)) ≡ true
  form_with true true true e = refl
  form_with true true false e = refl
  form_with true false true e = refl
  form_with true false false e = absurd cc
  form_with false true g e = refl
  form_with false false g e = absurd cc

  form_known : (k : Config) → ((form == 1) && (k.grain == 0)) || (form == 2) ≡ true → is_form k first_limits form ≡ true
  form_known k e =
      ap (λ b. ((form == 1) && ((k.grain == 0) && true)) || (((form == 2) && true) || (b && are_limits first_limits))) f
      ∙ form_with (form == 1) (form == 2) (k.grain == 0) e

  head_with : (k : Config) (clients servers disks blocks : ℕ) → safety.IsHead k clients servers disks blocks form →
      IsHead k first_limits clients servers disks blocks form
  head_with k clients servers disks blocks h =
      record {
        sound = h.sound;
        some_clients = ap (λ most. is_within 1 most clients) clients_are ∙ h.some_clients;
        some_servers = ap (λ most. is_within 1 most servers) servers_are ∙ h.some_servers;
        enough_disks = ap (λ most. is_within servers most disks) disks_are ∙ h.enough_disks;
        some_blocks = ap (λ most. is_within 1 most blocks) blocks_are ∙ h.some_blocks;
        known_form = form_known k h.known_form;
      }

  -- a form that is known has the limits of the first two forms, and is one of them
  known_parts : (a b g m l : Bool) → (a && (g && m)) || ((b && m) || (false && l)) ≡ true → ((a && g) || b ≡ true) × (m ≡ true)
  known_parts true b true true l e = (refl, refl)
  known_parts true true false true l e = (refl, refl)
  known_parts true false false true l e = absurd cc
  known_parts true true g false l e = absurd (false_parts g e)
    where
      false_parts : (g : Bool) → (g && false) || false ≡ true → ⊥
      false_parts true e = cc
      false_parts false e = cc
  known_parts true false g false l e = absurd (false_parts g e)
    where
      false_parts : (g : Bool) → (g && false) || false ≡ true → ⊥
      false_parts true e = cc
      false_parts false e = cc
  known_parts false true g true l e = (refl, refl)
  known_parts false true g false l e = absurd cc
  known_parts false false g m l e = absurd cc

  known_by : (k : Config) (m : Limits) → is_form k m form ≡ true → (((form == 1) && (k.grain == 0)) || (form == 2) ≡ true) × (are_first m ≡ true)
  known_by k m e =
      known_parts (form == 1) (form == 2) (k.grain == 0) (are_first m) (are_limits m)
      (sym (ap (λ b. ((form == 1) && ((k.grain == 0) && are_first m)) || (((form == 2) && are_first m) || (b && are_limits m))) f) ∙ e)

  head_of : (k : Config) (clients servers disks blocks : ℕ) (m : Limits) → IsHead k m clients servers disks blocks form →
      safety.IsHead k clients servers disks blocks form × (m ≡ first_limits)
  head_of k clients servers disks blocks m h =
      let z = known_by k m h.known_form in (
        record {
          sound = h.sound;
          some_clients = ap (λ most. is_within 1 most clients) (sym clients_are) ∙ h.some_clients;
          some_servers = ap (λ most. is_within 1 most servers) (sym servers_are) ∙ h.some_servers;
          enough_disks = ap (λ most. is_within servers most disks) (sym disks_are) ∙ h.enough_disks;
          some_blocks = ap (λ most. is_within 1 most blocks) (sym blocks_are) ∙ h.some_blocks;
          known_form = z.0;
        },
        limits_are z.1,
      )
    where
      limits_are : are_first m ≡ true → m ≡ first_limits
      limits_are e =
          let a = and_true (m.inodes == 4096) _ e in
          let b = and_true (m.locks == 1024) _ a.1 in
          let c = and_true (m.dirty == 64) _ b.1 in
          let d = and_true (m.clean == 256) _ c.1 in
          λ i. record {
            inodes = eqb-true m.inodes 4096 a.0 i;
            locks = eqb-true m.locks 1024 b.0 i;
            dirty = eqb-true m.dirty 64 c.0 i;
            clean = eqb-true m.clean 256 d.0 i;
            operations = eqb-true m.operations 16 d.1 i;
          }

pub first_heads_stay : FirstHeadsStay
first_heads_stay k clients servers disks blocks form f =
    (λ h. head_with form f k clients servers disks blocks h, λ m h. head_of form f k clients servers disks blocks m h)
