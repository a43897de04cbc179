use Rattle.st_journal_bytes.proofs.Headers.{settings_in_turn}
use Rattle.st_journal_bytes.proofs.header.put_settings.Goals as goal

pub returns : goal.returns
returns c =
    rw (
      c.in_ok-put_word64-9.ensures,
      c.in_ok-put_word64-8.ensures,
      c.in_ok-put_word64-7.ensures,
      c.in_ok-put_word64-6.ensures,
      c.in_ok-put_word64-5.ensures,
      c.in_ok-put_word64-4.ensures,
      c.in_ok-put_word64-3.ensures,
      c.in_ok-put_word64-2.ensures,
      c.in_ok-put_word64.ensures,
    ) (settings_in_turn c.args.out.now.items c.args.settings.now)
