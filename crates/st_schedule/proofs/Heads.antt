-- Heads: what is written is read, and what is read was written.
use Rattle.std.proofs.Common.{◌≡◌, ℕ, ◌^◌, ◌<◌, ◌≤◌, ◌⊎◌, inl, inr, Bool, true, false, cond, List, [], ◌∷◌, ◌++◌, map, refl, sym, ◌∙◌, ap, subst, arith}
use Rattle.std.specs.Prelude.{◌==◌, Some, Result, Ok, codes}
use Rattle.std.specs.Fmt.{decimal}
use Rattle.std.proofs.lemmas.Bool.Decides.{nat_tests}
use Rattle.std.proofs.lemmas.Fmt.{decimal_digit}
use Rattle.st_base.specs.declared.config.Config.{Config}
use Rattle.st_messages.specs.declared.event.Counts.{Counts}
use Rattle.st_schedule.specs.declared.fault.Fault.{Fault}
use Rattle.st_schedule.specs.Grammar.{MOST_SETTING, grains, counts_of, head_numbers, AreSettings, AreCounts, IsForm, SpellsHead}
use Rattle.st_schedule.specs.Parser.{setting_at, three_at, form_at, form_of, grain_at, rate_at, config_of, config_at, counts_at, head_at, ends}
use Rattle.st_schedule.proofs.ValuesWereWritten.{bind_ok, chosen, Begins, number_found, text_is, place_ok}
use Rattle.st_schedule.proofs.EventsWereWritten.{choose, ends_is}
use Rattle.st_schedule.proofs.ValuesAreRead.{number_again}

ok_same : {A : Type 0} (x y : A) → (let r : Result A Fault = Ok x in let q : Result A Fault = Ok y in r ≡ q) → x ≡ y
ok_same x y h = cc

small_setting : MOST_SETTING < 2 ^ 64
small_setting = omega arith

abbrev pub IsSetting : ℕ → Type 0
IsSetting n = n ≤ MOST_SETTING

setting_found : (ws : List (List ℕ)) (y : ℕ × List (List ℕ)) → setting_at ws ≡ Ok y → Begins ws (decimal y.0) y.1 (IsSetting y.0)
setting_found ws y h = let N = number_found 0 MOST_SETTING ws y small_setting h in record { text = N.text; fits = N.fits.1 }

-- these words are the words of numbers, and the rest
pub record Numbers (ws : List (List ℕ)) (ns : List ℕ) (rest : List (List ℕ)) (P : Type 0) : Type 0 where
  pub text : ws ≡ map decimal ns ++ rest
  pub fits : P

abbrev pub Three : Type 0
Three = ℕ × ℕ × ℕ

three_found : (ws : List (List ℕ)) (y : Three × List (List ℕ)) → three_at ws ≡ Ok y → Numbers ws (y.0.0 ∷ y.0.1 ∷ y.0.2 ∷ []) y.1 (IsSetting y.0.0 × IsSetting y.0.1 × IsSetting y.0.2)
unfolding three_at
three_found ws y h =
    let a = bind_ok _ _ _ h in
    let b = bind_ok _ _ _ a.2 in
    let c = bind_ok _ _ _ b.2 in
    let A = setting_found ws a.0 a.1 in
    let B = setting_found a.0.1 b.0 b.1 in
    let C = setting_found b.0.1 c.0 c.1 in
    let e : ((a.0.0, b.0.0, c.0.0), c.0.1) ≡ y = let k = c.2 in cc in
    subst (λ (y : Three × List (List ℕ)). Numbers ws (y.0.0 ∷ y.0.1 ∷ y.0.2 ∷ []) y.1 (IsSetting y.0.0 × IsSetting y.0.1 × IsSetting y.0.2)) e
    (record { text = A.text ∙ ap (λ (vs : List (List ℕ)). decimal a.0.0 ∷ vs) (B.text ∙ ap (λ (vs : List (List ℕ)). decimal b.0.0 ∷ vs) C.text); fits = (A.fits, B.fits, C.fits) })

form_word_is : (w : List ℕ) (form : ℕ) → form_of w ≡ Some form → (w ≡ decimal form) × ((form ≡ 1) ⊎ (form ≡ 2))
form_word_is w form h =
    choose (λ (n : ℕ). (w ≡ decimal n) × ((n ≡ 1) ⊎ (n ≡ 2))) _ 1 form _ h (λ b. (text_is w (codes "1") b ∙ sym (decimal_digit 1 (omega arith)), inl refl)) (λ h.
    choose (λ (n : ℕ). (w ≡ decimal n) × ((n ≡ 1) ⊎ (n ≡ 2))) _ 2 form _ h (λ b. (text_is w (codes "2") b ∙ sym (decimal_digit 2 (omega arith)), inr refl)) (λ h. absurd (cc)))

form_found : (ws : List (List ℕ)) (y : ℕ × List (List ℕ)) → form_at ws ≡ Ok y → Begins ws (decimal y.0) y.1 ((y.0 ≡ 1) ⊎ (y.0 ≡ 2))
unfolding form_at
form_found ws y h =
    let p : (w : List ℕ) × (ws ≡ w ∷ y.1) × (form_of w ≡ Some y.0) = place_ok form_of ws y h in
    let k = form_word_is p.0 y.0 p.2 in
    record { text = p.1 ∙ ap (λ (v : List ℕ). v ∷ y.1) k.0; fits = k.1 }

-- the grain of either form
abbrev pub IsGrain : ℕ → ℕ → Type 0
IsGrain form grain = IsSetting grain × (((form == 2) ≡ true) ⊎ (grain ≡ 0))

grain_read : (form : ℕ) (ws : List (List ℕ)) (y : ℕ × List (List ℕ)) → (form == 2) ≡ true → setting_at ws ≡ Ok y → Numbers ws (grains form y.0) y.1 (IsGrain form y.0)
grain_read form ws y second h =
    let S = setting_found ws y h in
    record { text = rw second S.text; fits = (S.fits, inl second) }

grain_none : (form : ℕ) (ws : List (List ℕ)) → (form == 2) ≡ false → Numbers ws (grains form 0) ws (IsGrain form 0)
grain_none form ws first = record { text = rw first refl; fits = (omega arith, inr refl) }

grain_found : (form : ℕ) (ws : List (List ℕ)) (y : ℕ × List (List ℕ)) → grain_at form ws ≡ Ok y → Numbers ws (grains form y.0) y.1 (IsGrain form y.0)
unfolding grain_at
grain_found form ws y h =
    elim (chosen (form == 2) _ _ _ h) as (λ q. Numbers ws (grains form y.0) y.1 (IsGrain form y.0)) [
      | inl p ↦ grain_read form ws y p.0 p.1
      | inr p ↦ (let e : (0, ws) ≡ y = let k = p.1 in cc in subst (λ (y : ℕ × List (List ℕ)). Numbers ws (grains form y.0) y.1 (IsGrain form y.0)) e (grain_none form ws p.0))
    ]

rate_found : (form : ℕ) (ws : List (List ℕ)) (y : Three × List (List ℕ)) → rate_at form ws ≡ Ok y → Numbers ws (y.0.0 ∷ y.0.1 ∷ grains form y.0.2) y.1 (IsSetting y.0.0 × IsSetting y.0.1 × IsGrain form y.0.2)
unfolding rate_at
rate_found form ws y h =
    let a = bind_ok _ _ _ h in
    let b = bind_ok _ _ _ a.2 in
    let c = bind_ok _ _ _ b.2 in
    let A = setting_found ws a.0 a.1 in
    let B = setting_found a.0.1 b.0 b.1 in
    let C = grain_found form b.0.1 c.0 c.1 in
    let e : ((a.0.0, b.0.0, c.0.0), c.0.1) ≡ y = let k = c.2 in cc in
    subst (λ (y : Three × List (List ℕ)). Numbers ws (y.0.0 ∷ y.0.1 ∷ grains form y.0.2) y.1 (IsSetting y.0.0 × IsSetting y.0.1 × IsGrain form y.0.2)) e
    (record { text = A.text ∙ ap (λ (vs : List (List ℕ)). decimal a.0.0 ∷ vs) (B.text ∙ ap (λ (vs : List (List ℕ)). decimal b.0.0 ∷ vs) C.text); fits = (A.fits, B.fits, C.fits) })

-- the words of a config's numbers, and the rest
pub record IsConfig (form : ℕ) (ws : List (List ℕ)) (y : Config × List (List ℕ)) : Type 0 where
  pub text : ws ≡ decimal y.0.lease ∷ decimal y.0.renew ∷ decimal y.0.quiesce ∷ decimal y.0.flush ∷ decimal y.0.demand ∷ decimal y.0.retry ∷ decimal y.0.num ∷ decimal y.0.den ∷ (map decimal (grains form y.0.grain) ++ y.1)
  pub settings : AreSettings y.0
  pub grain : ((form == 2) ≡ true) ⊎ (y.0.grain ≡ 0)

config_found : (form : ℕ) (ws : List (List ℕ)) (y : Config × List (List ℕ)) → config_at form ws ≡ Ok y → IsConfig form ws y
unfolding config_at
config_found form ws y h =
    let a = bind_ok _ _ _ h in
    let b = bind_ok _ _ _ a.2 in
    let c = bind_ok _ _ _ b.2 in
    let A = three_found ws a.0 a.1 in
    let B = three_found a.0.1 b.0 b.1 in
    let C = rate_found form b.0.1 c.0 c.1 in
    let e : (config_of a.0.0 b.0.0 c.0.0, c.0.1) ≡ y = let k = c.2 in cc in
    subst (IsConfig form ws) e
    (record {
      text = A.text ∙ ap (λ (vs : List (List ℕ)). decimal a.0.0.0 ∷ decimal a.0.0.1 ∷ decimal a.0.0.2 ∷ vs)
          (B.text ∙ ap (λ (vs : List (List ℕ)). decimal b.0.0.0 ∷ decimal b.0.0.1 ∷ decimal b.0.0.2 ∷ vs) C.text);
      settings = record { times = A.fits; others = B.fits; rate = (C.fits.0, C.fits.1, C.fits.2.0) };
      grain = C.fits.2.1;
    })

pub record HasCounts (ws : List (List ℕ)) (y : Counts × List (List ℕ)) : Type 0 where
  pub text : ws ≡ map decimal (counts_of y.0) ++ y.1
  pub fits : AreCounts y.0

small_16 : 16 < 2 ^ 64
small_16 = omega arith

small_4 : 4 < 2 ^ 64
small_4 = omega arith

small_8 : 8 < 2 ^ 64
small_8 = omega arith

small_4096 : 4096 < 2 ^ 64
small_4096 = omega arith

counts_found : (ws : List (List ℕ)) (y : Counts × List (List ℕ)) → counts_at ws ≡ Ok y → HasCounts ws y
unfolding counts_at
counts_found ws y h =
    let a = bind_ok _ _ _ h in
    let b = bind_ok _ _ _ a.2 in
    let c = bind_ok _ _ _ b.2 in
    let d = bind_ok _ _ _ c.2 in
    let A = number_found 1 16 ws a.0 small_16 a.1 in
    let B = number_found 1 4 a.0.1 b.0 small_4 b.1 in
    let C = number_found b.0.0 8 b.0.1 c.0 small_8 c.1 in
    let D = number_found 1 4096 c.0.1 d.0 small_4096 d.1 in
    let n : Counts = record { clients = a.0.0; servers = b.0.0; disks = c.0.0; blocks = d.0.0 } in
    let e : (n, d.0.1) ≡ y = let k = d.2 in cc in
    subst (HasCounts ws) e
    (record {
      text = A.text ∙ ap (λ (vs : List (List ℕ)). decimal a.0.0 ∷ vs) (B.text ∙ ap (λ (vs : List (List ℕ)). decimal b.0.0 ∷ vs) (C.text ∙ ap (λ (vs : List (List ℕ)). decimal c.0.0 ∷ vs) D.text));
      fits = (A.fits, B.fits, C.fits, D.fits);
    })

form_is : (form grain : ℕ) → (form ≡ 1) ⊎ (form ≡ 2) → ((form == 2) ≡ true) ⊎ (grain ≡ 0) → IsForm form grain
form_is form grain (inr second) g = inr second
form_is form grain (inl first) (inr none) = inl (first, none)
form_is form grain (inl first) (inl second) = inr (grind (arith, nat_tests))

by_form : (b : Bool) (grain : ℕ) (n : Counts) → map decimal (cond b (grain ∷ []) []) ++ map decimal (counts_of n) ≡ map decimal (cond b (grain ∷ []) [] ++ counts_of n)
by_form true grain n = refl
by_form false grain n = refl

append_numbers : (form grain : ℕ) (n : Counts) → map decimal (grains form grain) ++ map decimal (counts_of n) ≡ map decimal (grains form grain ++ counts_of n)
append_numbers form grain n = by_form (form == 2) grain n

pub head_is_spelled : (ws : List (List ℕ)) (h : Config × Counts × ℕ) → head_at ws ≡ Ok h → SpellsHead (codes "tank" ∷ ws) h.0 h.1 h.2
unfolding head_at
head_is_spelled ws h k =
    let f = bind_ok _ _ _ k in
    let c = bind_ok _ _ _ f.2 in
    let n = bind_ok _ _ _ c.2 in
    let u = bind_ok {A = Unit {0}} (ends n.0.1) (λ none. Ok (c.0.0, n.0.0, f.0.0)) h n.2 in
    let F = form_found ws f.0 f.1 in
    let C = config_found f.0.0 f.0.1 c.0 c.1 in
    let N = counts_found c.0.1 n.0 n.1 in
    let done = ends_is n.0.1 u.0 u.1 in
    let e : (c.0.0, n.0.0, f.0.0) ≡ h = ok_same (c.0.0, n.0.0, f.0.0) h u.2 in
    let tail : c.0.1 ≡ map decimal (counts_of n.0.0) = N.text ∙ ap (λ (vs : List (List ℕ)). map decimal (counts_of n.0.0) ++ vs) done in
    subst (λ (h : Config × Counts × ℕ). SpellsHead (codes "tank" ∷ ws) h.0 h.1 h.2) e (
      (C.settings, N.fits, form_is f.0.0 c.0.0.grain F.fits C.grain),
      ap (λ (vs : List (List ℕ)). codes "tank" ∷ vs) (F.text ∙ ap (λ (vs : List (List ℕ)). decimal f.0.0 ∷ vs)
          (C.text ∙ ap (λ (vs : List (List ℕ)). decimal c.0.0.lease ∷ decimal c.0.0.renew ∷ decimal c.0.0.quiesce ∷ decimal c.0.0.flush ∷ decimal c.0.0.demand ∷ decimal c.0.0.retry ∷ decimal c.0.0.num ∷ decimal c.0.0.den ∷ vs)
          (ap (λ (vs : List (List ℕ)). map decimal (grains f.0.0 c.0.0.grain) ++ vs) tail ∙ append_numbers f.0.0 c.0.0.grain n.0.0))),
    )

-- What is written is read.

setting_again : (n : ℕ) (ws : List (List ℕ)) → IsSetting n → setting_at (decimal n ∷ ws) ≡ Ok (n, ws)
setting_again n ws fits = number_again 0 MOST_SETTING n ws (omega arith) (omega arith) fits

three_again : (a b c : ℕ) (ws : List (List ℕ)) → IsSetting a → IsSetting b → IsSetting c → three_at (decimal a ∷ decimal b ∷ decimal c ∷ ws) ≡ Ok ((a, b, c), ws)
unfolding three_at
three_again a b c ws x y z = rw (setting_again a (decimal b ∷ decimal c ∷ ws) x, setting_again b (decimal c ∷ ws) y, setting_again c ws z) refl

rate_first : (num den : ℕ) (ws : List (List ℕ)) → IsSetting num → IsSetting den → rate_at 1 (decimal num ∷ decimal den ∷ ws) ≡ Ok ((num, den, 0), ws)
unfolding rate_at grain_at
rate_first num den ws x y = rw (setting_again num (decimal den ∷ ws) x, setting_again den ws y) refl

rate_second : (num den grain : ℕ) (ws : List (List ℕ)) → IsSetting num → IsSetting den → IsSetting grain → rate_at 2 (decimal num ∷ decimal den ∷ decimal grain ∷ ws) ≡ Ok ((num, den, grain), ws)
unfolding rate_at grain_at
rate_second num den grain ws x y z = rw (setting_again num (decimal den ∷ decimal grain ∷ ws) x, setting_again den (decimal grain ∷ ws) y, setting_again grain ws z) refl

-- the words of a config's times
abbrev pub time_words : Config → List (List ℕ) → List (List ℕ)
time_words c ws = decimal c.lease ∷ decimal c.renew ∷ decimal c.quiesce ∷ decimal c.flush ∷ decimal c.demand ∷ decimal c.retry ∷ ws

config_again : (c : Config) (form grain : ℕ) (ws rest : List (List ℕ)) → AreSettings c → rate_at form ws ≡ Ok ((c.num, c.den, grain), rest) → c.grain ≡ grain → config_at form (time_words c ws) ≡ Ok (c, rest)
unfolding config_at
config_again c form grain ws rest fits r e =
    rw (
      three_again c.lease c.renew c.quiesce (decimal c.flush ∷ decimal c.demand ∷ decimal c.retry ∷ ws) fits.times.0 fits.times.1 fits.times.2,
      three_again c.flush c.demand c.retry ws fits.others.0 fits.others.1 fits.others.2,
      r,
    )
    (ap (λ (g : ℕ). Ok (config_of (c.lease, c.renew, c.quiesce) (c.flush, c.demand, c.retry) (c.num, c.den, g), rest)) (sym e))

counts_again : (n : Counts) → AreCounts n → counts_at (map decimal (counts_of n)) ≡ Ok (n, [])
unfolding counts_at
counts_again n fits =
    rw (
      number_again 1 16 n.clients (decimal n.servers ∷ decimal n.disks ∷ decimal n.blocks ∷ []) (omega arith) fits.0.0 fits.0.1,
      number_again 1 4 n.servers (decimal n.disks ∷ decimal n.blocks ∷ []) (omega arith) fits.1.0 fits.1.1,
      number_again n.servers 8 n.disks (decimal n.blocks ∷ []) (omega arith) fits.2.0 fits.2.1,
      number_again 1 4096 n.blocks [] (omega arith) fits.3.0 fits.3.1,
    ) refl

form_again : (form : ℕ) (ws : List (List ℕ)) → (form ≡ 1) ⊎ (form ≡ 2) → form_at (decimal form ∷ ws) ≡ Ok (form, ws)
unfolding form_at
form_again form ws (inl e) = rw (e, decimal_digit 1 (omega arith)) refl
form_again form ws (inr e) = rw (e, decimal_digit 2 (omega arith)) refl

head_parts : (form : ℕ) (ws : List (List ℕ)) (c : Config) (n : Counts) → (form ≡ 1) ⊎ (form ≡ 2) → config_at form ws ≡ Ok (c, map decimal (counts_of n)) → AreCounts n → head_at (decimal form ∷ ws) ≡ Ok (c, n, form)
unfolding head_at ends
head_parts form ws c n f e fits = rw (form_again form ws f, e, counts_again n fits) refl

head_first : (c : Config) (n : Counts) → AreSettings c → AreCounts n → c.grain ≡ 0 → head_at (decimal 1 ∷ map decimal (head_numbers c n 1)) ≡ Ok (c, n, 1)
head_first c n settings counts none =
    head_parts 1 _ c n (inl refl) (config_again c 1 0 (decimal c.num ∷ decimal c.den ∷ map decimal (counts_of n)) (map decimal (counts_of n)) settings (rate_first c.num c.den _ settings.rate.0 settings.rate.1) none) counts

head_second : (c : Config) (n : Counts) → AreSettings c → AreCounts n → head_at (decimal 2 ∷ map decimal (head_numbers c n 2)) ≡ Ok (c, n, 2)
head_second c n settings counts =
    head_parts 2 _ c n (inr refl) (config_again c 2 c.grain (decimal c.num ∷ decimal c.den ∷ decimal c.grain ∷ map decimal (counts_of n)) (map decimal (counts_of n)) settings (rate_second c.num c.den c.grain _ settings.rate.0 settings.rate.1 settings.rate.2) refl) counts

pub head_is_read : (c : Config) (n : Counts) (form : ℕ) → AreSettings c → AreCounts n → IsForm form c.grain → head_at (decimal form ∷ map decimal (head_numbers c n form)) ≡ Ok (c, n, form)
head_is_read c n form settings counts (inl f) =
    subst (λ (k : ℕ). head_at (decimal k ∷ map decimal (head_numbers c n k)) ≡ Ok (c, n, k)) (sym f.0) (head_first c n settings counts f.1)
head_is_read c n form settings counts (inr f) =
    subst (λ (k : ℕ). head_at (decimal k ∷ map decimal (head_numbers c n k)) ≡ Ok (c, n, k)) (sym f) (head_second c n settings counts)
