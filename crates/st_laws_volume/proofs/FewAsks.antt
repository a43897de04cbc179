-- At most sixteen operations of a client are pending.
use Rattle.std.proofs.Common.{◌≡◌, ◌≤◌, ℕ, suc, ◌+◌, arith, Bool, true, false, List, [], ◌∷◌, ◌++◌, length, map, Option, Some, None, Ok, Err, refl, sym, ap, ◌∙◌, subst, inl, inr, if◌then◌else◌}
use Rattle.std.proofs.lemmas.Bool.{eqb-true, leb-false}
use Rattle.st_base.specs.declared.config.Config.{Config}
use Rattle.st_base.specs.declared.ids.ClientId.{ClientId}
use Rattle.st_base.specs.declared.ids.FileId.{FileId}
use Rattle.st_base.specs.declared.ids.ServerId.{ServerId}
use Rattle.st_base.specs.declared.ids.Stamp.{Stamp}
use Rattle.st_messages.specs.declared.answer.AppAnswer.{AppAnswer}
use Rattle.st_messages.specs.declared.answer.AppAnswer.TheVariants as answers
use Rattle.st_messages.specs.declared.ask.Ask.{Ask}
use Rattle.st_messages.specs.declared.ask.Ask.TheVariants as asks
use Rattle.st_messages.specs.declared.output.Output.{Output}
use Rattle.st_rules.specs.declared.client.ClientInput.TheVariants as inputs
use Rattle.st_rules.specs.declared.client.Operation.{Operation}
use Rattle.st_rules.specs.Client as cl
use Rattle.st_rules.specs.ClientPages as pages
use Rattle.st_rules.specs.ClientPasses as cp
use Rattle.st_rules.specs.ClientState as cs
use Rattle.st_rules.specs.ClientState.{Association, ClientSession, ClientState, ClientTurn, Turn, at_each, at_these, client_turn, enter, is_at, leave, only_at, server_of}
use Rattle.st_lemmas.specs.Lists.{Has}
use Rattle.st_lemmas.proofs.Numbers.{length_more}
use Rattle.st_lemmas.proofs.Tables.{has_map_in}
use Rattle.st_laws_steps.specs.Client.Losses.{Fit}
use Rattle.st_laws_steps.specs.Lives.Lives.{Once, server_number}
use Rattle.st_laws_steps.proofs.Client.Stepping.{LostOrNot, losses_left}
use Rattle.st_laws_pages.proofs.Asks.Client.{Begun, Each, Lasting, Lasts, Stands, Usable, each, key, usable_after_passes, stands_after_lose}
use Rattle.st_laws_pages.proofs.Asks.Places.{Knows}
use Rattle.st_laws_steps.proofs.Lives.Associations.{numbers_same}

-- Facts of the operations: there are at most this many; and none at all.
abbrev Free : ServerId → Type 0
Free s = Unit {0}

abbrev Few : ℕ → List Operation → List Output → Type 0
Few most ops out = length ops ≤ most

few_without_one : (most : ℕ) (xs ys : List Operation) (o : Operation) → length (xs ++ o ∷ ys) ≤ most → length (xs ++ ys) ≤ most
few_without_one most xs ys o l = let e = mid xs in omega (arith, l, e)
  where
    mid : (xs : List Operation) → length (xs ++ o ∷ ys) ≡ suc (length (xs ++ ys))
    mid [] = refl
    mid (x ∷ xs) = ap suc (mid xs)

same_many : (xs ys : List Operation) → map key xs ≡ map key ys → length xs ≡ length ys
same_many [] [] e = refl
same_many [] (y ∷ ys) e = cc
same_many (x ∷ xs) [] e = cc
same_many (x ∷ xs) (y ∷ ys) e = ap suc (same_many xs ys (rest e))
  where
    rest : key x ∷ map key xs ≡ key y ∷ map key ys → map key xs ≡ map key ys
    rest e = cc

module _ (n : ℕ) (c : ClientId) where
  few_lasts : (most : ℕ) → Lasts n Free c (Few most)
  few_lasts most =
      record {
        says = λ ops out o m h. h;
        submits = λ ops out s number at what u o h. h;
        answered = λ xs ys out o a e h. few_without_one most xs ys o h;
        reads = λ xs ys out o bytes u h. few_without_one most xs ys o h;
        changes = λ xs ys out o x m u h. few_without_one most xs ys o h;
        stages = λ xs ys out e h. subst (λ l. l ≤ most) (same_many xs ys e) h;
      }

  abbrev Any : List Operation → List Output → Type 0
  Any ops out = Unit {0}

  any_lasts : Lasts n Free c Any
  any_lasts =
      record {
        says = λ ops out o m h. tt;
        submits = λ ops out s number at what u o h. tt;
        answered = λ xs ys out o a e h. tt;
        reads = λ xs ys out o bytes u h. tt;
        changes = λ xs ys out o x m u h. tt;
        stages = λ xs ys out e h. tt;
      }

  -- An ask is one more operation, at one server.
  module _ (op : ℕ) (ask : Ask) where
    abbrev s : ServerId
    s = server_of ask

    abbrev rule : Turn → Turn
    rule = only_at s (cl.take_ask op ask)

    one_more : (t : Turn) → length (cl.take_ask op ask t).operations ≤ length t.operations + 1
    unfolding cl.take_ask cl.take_by cl.take_sync cl.enqueue cl.tell_lost
    one_more t = by ask
      where
        enqueued : length (cl.enqueue t op ask).operations ≤ length t.operations + 1
        enqueued = let e = length_more t.operations (cs.new_operation op ask) in omega (arith, e)

        lost : (f : FileId) (b : Bool) →
            length (if b then cl.tell_lost t op f.ino else cl.enqueue t op ask).operations ≤ length t.operations + 1
        lost f true = omega arith
        lost f false = enqueued

        by : (a : Ask) → length (cl.take_by t op ask a).operations ≤ length t.operations + 1
        by (asks.Sync f) = lost f (pages.has_lost t.here.lost f.ino)
        by a = enqueued

    abbrev turned : Bool → Turn → Turn
    turned b t = if b then cl.take_ask op ask t else t

    none_more : (al : List Association) (t : ClientTurn) → ((a : Association) → Has a al → is_at s a ≡ false) →
        (at_these rule al t).state.operations ≡ t.state.operations
    unfolding at_these only_at
    none_more [] t h = refl
    none_more (a ∷ al) t h =
        ap (λ b. (at_these rule al (leave t (turned b (enter t a)))).state.operations) (h a (inl refl))
        ∙ none_more al (leave t (enter t a)) (λ b i. h b (inr i))

    elsewhere : (a : Association) (al : List Association) → ((m : ℕ) → Has m (map server_number al) → server_number a ≡ m → ⊥) → is_at s a ≡ true →
        (b : Association) → Has b al → is_at s b ≡ false
    elsewhere a al o e b h = go (is_at s b) refl
      where
        go : (z : Bool) → is_at s b ≡ z → is_at s b ≡ false
        go true f = absurd (o (server_number b) (has_map_in server_number al b h) (eqb-true a.server.0 s.0 e ∙ sym (eqb-true b.server.0 s.0 f)))
        go false f = f

    at_one : (al : List Association) (t : ClientTurn) → Once (map server_number al) →
        length (at_these rule al t).state.operations ≤ length t.state.operations + 1
    unfolding at_these only_at
    at_one [] t o = omega arith
    at_one (a ∷ al) t o = go (is_at s a) refl (at_one al (leave t (enter t a)) o.rest)
      where
        go : (b : Bool) → is_at s a ≡ b → length (at_these rule al (leave t (enter t a))).state.operations ≤ length t.state.operations + 1 →
            length (at_these rule al (leave t (turned b (enter t a)))).state.operations ≤ length t.state.operations + 1
        go true q l =
            subst (λ os. length os ≤ length t.state.operations + 1)
            (sym (none_more al (leave t (cl.take_ask op ask (enter t a))) (elsewhere a al o.first q)))
            (one_more (enter t a))
        go false q l = l

    taken : (k : Config) (t : Turn) → Stands n c k Any (Usable Free) t → Stands n c k Any (Usable Free) (rule t)
    unfolding only_at cl.take_ask cl.take_by cl.take_sync cl.enqueue cl.tell_lost
    taken k t w = go (is_at s t.here)
      where
        lost : (f : FileId) (b : Bool) →
            Stands n c k Any (Usable Free) (if b then cl.tell_lost t op f.ino else cl.enqueue t op ask)
        lost f true = record { id = w.id; config = w.config; done = tt; own = w.own; cond = λ z. tt }
        lost f false = record { id = w.id; config = w.config; done = tt; own = w.own; cond = λ z. tt }

        by : (a : Ask) → Stands n c k Any (Usable Free) (cl.take_by t op ask a)
        by (asks.Sync f) = lost f (pages.has_lost t.here.lost f.ino)
        by a = record { id = w.id; config = w.config; done = tt; own = w.own; cond = λ z. tt }

        go : (b : Bool) → Stands n c k Any (Usable Free) (turned b t)
        go true = by ask
        go false = w

    -- the ask of a client of which at most sixteen operations are pending
    module _ (k : Config) (t : ClientTurn) (once : Once (map server_number t.state.associations)) (e : Each n Free c k (Few 16) (few_lasts 16) (Begun Free) t)
      where
        abbrev Left : ClientTurn → Type 0
        Left u = Each n Free c k (Few 16) (few_lasts 16) (Usable Free) u

        at_once : (a : AppAnswer) → Left (cl.answered_at_once t op a)
        at_once a = record { id = e.id; config = e.config; done = e.done; own = e.own; cond = λ b i z. tt }

        enqueued : length t.state.operations ≤ 15 → Left (at_each rule t)
        unfolding at_each
        enqueued l =
            let z =
            each n Free c k Any any_lasts (Usable Free) (Usable Free) rule (taken k) t
            (record { id = e.id; config = e.config; done = tt; own = e.own; cond = λ b i y. tt }) in
            record {
              id = z.id;
              config = z.config;
              done = let m = at_one t.state.associations (cs.with_associations [] t) once in
                  omega (arith, l, m);
              own = z.own;
              cond = z.cond;
            }

        asked : Left (cl.app t op ask)
        unfolding cl.app cl.app_known
        asked = full (cl.is_full t.state) refl
          where
            known : length t.state.operations ≤ 15 → (b : Bool) → Left (if b then at_each rule t else cl.answered_at_once t op answers.NoFile)
            known l true = enqueued l
            known l false = at_once answers.NoFile

            full : (b : Bool) → cl.is_full t.state ≡ b → Left (if b then cl.answered_at_once t op answers.OpsFull else cl.app_known t op ask)
            full true q = at_once answers.OpsFull
            full false q = let l = leb-false 16 (length t.state.operations) q in known (omega (arith, l)) (cl.is_configured t.state s)

-- A whole step at an ask.
pub step_few : (n : ℕ) (c : ClientId) (s : ClientState) (now : Stamp) (op : ℕ) (ask : Ask) → s.id ≡ c → Once (map server_number s.associations) →
    ((a : Association) → Has a s.associations → Fit a) → ((a : Association) → Has a s.associations → Knows n a.server a.store.extents) →
    length s.operations ≤ 16 → length (cl.client_step s now (inputs.App op ask)).state.operations ≤ 16
unfolding cl.client_step cl.work cl.take_input cl.losses
step_few n c s now op ask id once fit knows few =
    (each n Free c s.config (Few 16) (few_lasts n c 16) (Usable Free) (Usable Free) (cp.passes now false)
    (λ u w. usable_after_passes n Free c s.config (Few 16) (few_lasts n c 16) now false u w)
    (cl.app lost op ask) (asked n c op ask s.config lost here lasts)).done
  where
    lost : ClientTurn
    lost = cl.losses (client_turn s []) now

    lasts : Each n Free c s.config (Few 16) (few_lasts n c 16) (Begun Free) lost
    lasts =
        each n Free c s.config (Few 16) (few_lasts n c 16) (Lasting s.config now Free) (Begun Free) (cl.lose now)
        (λ u w. stands_after_lose n Free c s.config (Few 16) (few_lasts n c 16) now u w) (client_turn s [])
        (record { id = id; config = refl; done = few; own = knows; cond = λ a i l. tt })

    here : Once (map server_number lost.state.associations)
    here =
        subst Once
        (numbers_same (LostOrNot s.config now) (λ a b r. r.server) s.associations lost.state.associations
        (losses_left c s now (client_turn s []) refl fit).pairs)
        once
