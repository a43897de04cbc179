use Rattle.st_lemmas.proofs.Words
use Words.{ℕ, ◌∙◌, ap, arith, length, refl, rules, subst}
use Rattle.std.proofs.lemmas.Result.{err_from_is_err_and}
use Rattle.st_extents.specs.Layout.{IsWithinLimits}
use Rattle.st_journal.specs.Parts as parts
use Rattle.st_journal.proofs.Records.{gate_within}
use Rattle.st_embed.specs.Servers.{MayOpen, MayStart, begun}
use Rattle.st_embed.proofs.Opened.{epoch_placed, epoch_room, not_opened}
use Rattle.st_embed.proofs.StableParts.{is_of_server}
use Rattle.st_embed.proofs.server.EmbeddedServer.open.Goals as goal

pub opened-requires-clause-own : goal.opened-requires-clause-own
opened-requires-clause-own c =
    let limits : IsWithinLimits c.args.id.0 c.args.shape.servers c.args.shape.disks c.args.shape.blocks = search rules in
    is_of_server c.args.id c.args.shape c.args.journal.now c.in-Ok.ensures.ok.changes (parts.stable_of c.in-Ok.read.stable) limits (omega (arith, c.if-size-gt4294967295.false)) c.in-Ok.ensures.ok.stands

pub invariant_of-result : goal.invariant_of-result
invariant_of-result c =
    let reads = c.in-Ok.ensures.ok in
    record {
      within = gate_within c.args.journal.now reads.changes c.in-Ok.read.gate reads.stands.journal reads.gate;
      small = omega (arith, c.if-size-gt4294967295.false);
      room = λ _. epoch_placed c.in_ok-server.server.changed (length c.args.journal.now) c.in-Ok.read.gate c.in_ok-server.ensures.changed (omega (arith, c.if-size-read-lt-MOST_RECORD.false));
    }

pub returns-clause-ok : goal.returns-clause-ok
returns-clause-ok c =
    let reads = c.in-Ok.ensures.ok in
    record {
      changes = reads.changes;
      stable = parts.stable_of c.in-Ok.read.stable;
      stands = reads.stands;
      may_start = subst (λ (n : ℕ). MayStart n (parts.stable_of c.in-Ok.read.stable)) reads.count c.in_ok-server.ensures.may;
      node = c.in_ok-server.ensures.node ∙ ap (λ (n : ℕ). begun c.args.id c.args.config.now c.args.shape c.args.now n (parts.stable_of c.in-Ok.read.stable)) reads.count;
      changed = c.in_ok-server.ensures.changed;
      told = c.in_ok-server.ensures.told;
      gate = reads.gate;
      size = refl;
      room = epoch_room (length c.args.journal.now) c.in-Ok.read.gate (omega (arith, c.if-size-read-lt-MOST_RECORD.false));
      unkept = refl;
      left = c.new.ensures.left;
      outputs = c.new.ensures.outputs;
      last = refl;
    }

pub returns-in_err-server-clause-err : goal.returns-in_err-server-clause-err
returns-in_err-server-clause-err c =
    let p = err_from_is_err_and c.from_residual.result c.from_residual.ensures.1 in
    let reads = c.in-Ok.ensures.ok in
    let may : MayOpen c.args.id c.args.config.now c.args.shape c.args.now (length c.args.journal.now) = search rules in
    rw (p.1, p.2) (not_opened c.args.id c.args.config.now c.args.shape c.args.now c.args.journal.now c.in-Ok.read.changes reads.changes
    (parts.stable_of c.in-Ok.read.stable) c.in_err-server.field-0.0 may reads.stands reads.count c.in_err-server.ensures.err)
