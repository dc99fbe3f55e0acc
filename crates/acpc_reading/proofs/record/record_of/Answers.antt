use Rattle.hand_canon.specs.declared.record.Record.{Record}
use Rattle.acpc_reading.proofs.MatchRecords.{sound_record}
use Rattle.acpc_reading.proofs.record.record_of.Goals as goal

pub returns-clause-game : goal.returns-clause-game
returns-clause-game c =
    let hand : Record = record { setup = c.setup_of.result; rules = c.make_rules.result; script = c.args.script; stated = c.stating.result; notes = c.noting.result } in
    record {
      setup = c.setup_of.ensures;
      rules = c.make_rules.ensures;
      stated = c.stating.ensures.alone;
      notes = c.noting.ensures.alone;
      sound =
          sound_record c.args.game.now hand c.args.values c.setup_of.ensures c.requires.within c.stating.ensures.values c.requires.seats c.stating.ensures.alone c.noting.ensures.alone
          (rw c.noting.ensures.names c.requires.each) (rw c.noting.ensures.names c.requires.no_more) (rw c.noting.ensures.hand c.requires.hand);
    }
