use Rattle.zs_subscriptions.specs.Lists.{shown, HasRoomFor, noted}
use Rattle.zs_subscriptions.specs.NumberRows.{is_met, joined}
use Rattle.zs_subscriptions.proofs.Stepping.{walked_none, walked_more, walked_less, walked_all}
use Rattle.zs_subscriptions.proofs.Listing.{still_at, room_met, noted_met, noted_idle}
use Rattle.zs_subscriptions.proofs.lists.note_id.Goals as goal

pub rows-init : goal.rows-init
rows-init c = record { are = c.requires.rows; walked = walked_none shown (noted c.args.id c.args.key.now.text) c.args.rows.now }

pub note_at-requires-clause-room : goal.note_at-requires-clause-room
note_at-requires-clause-room c =
    room_met c.args.key.now.text _ c.in-Some.ensures.1
    (still_at (HasRoomFor c.args.key.now.text) shown (noted c.args.id c.args.key.now.text) c.rows.after c.in-Some.number c.args.rows.now c.rows.rows c.requires.room c.rows.invariant.walked c.in-Some.ensures.0)

pub rows-preserved : goal.rows-preserved
rows-preserved c =
    let text = c.args.key.now.text in
    record {
      are = c.note_at.ensures.rows;
      walked = walked_more shown (noted c.args.id text) (joined c.args.id) (is_met text) c.rows.after c.in-Some.number c.args.rows.now c.rows.rows c.note_at.new.rows (noted_met c.args.id text) (noted_idle c.args.id text) c.rows.invariant.walked c.in-Some.ensures c.note_at.ensures.list;
    }

pub rows-smaller : goal.rows-smaller
rows-smaller c = walked_less shown (noted c.args.id c.args.key.now.text) (is_met c.args.key.now.text) c.rows.after c.in-Some.number c.args.rows.now c.rows.rows c.rows.invariant.walked c.in-Some.ensures

pub returns : goal.returns
returns c =
    let text = c.args.key.now.text in
    record {
      rows = c.rows.invariant.are;
      lists = walked_all shown (noted c.args.id text) (is_met text) c.rows.after c.args.rows.now c.rows.rows c.requires.rows.ascending c.rows.invariant.are.ascending (noted_idle c.args.id text) c.rows.invariant.walked c.in_default.ensures;
    }
