use Rattle.std.proofs.Common.{◌-◌, ◌∙◌, ap, set, refl, arith, sym, Some, None}
use Rattle.std.proofs.lemmas.List.{get_or_default}
use Rattle.std.specs.Option.{option_or}
use Rattle.ohh_rounds.specs.Posts.{chips_in, is_ante, is_big_blind, is_small_blind, is_straddle, plain_post}
use Rattle.ohh_rounds.proofs.Noted.{noted, other_blind, other_kind, this_blind}
use Rattle.ohh_rounds.proofs.posts_so_far.PostsSoFar.note.Goals as goal

pub returns-in-Ante : goal.returns-in-Ante
returns-in-Ante c posts kept =
    let row = c.args.self.now.antes in
    let post = c.args.post.now in
    let old = get_or_default row (post.seat.number - 1) c.index-self-index.result None (omega (arith, c.args.self.now.ten_antes, post.seat.first, post.seat.last)) in
    record {
      antes = λ seat from to.
          ap (λ value. chips_in (set row (post.seat.number - 1) value) seat) (c.first_of.ensures ∙ ap (λ x. option_or x (Some post.amount)) old)
          ∙ noted is_ante row posts (plain_post post) post.amount (ap is_ante c.in-Ante.is) refl c.args.self.now.ten_antes post.seat.first post.seat.last kept.antes seat from to;
      straddles = λ seat from to. kept.straddles seat from to ∙ sym (other_kind is_straddle seat posts (plain_post post) (ap is_straddle c.in-Ante.is));
      small_blind = kept.small_blind ∙ other_blind is_small_blind posts (plain_post post) (ap is_small_blind c.in-Ante.is);
      big_blind = kept.big_blind ∙ other_blind is_big_blind posts (plain_post post) (ap is_big_blind c.in-Ante.is);
    }

pub returns-in-Straddle : goal.returns-in-Straddle
returns-in-Straddle c posts kept =
    let row = c.args.self.now.straddles in
    let post = c.args.post.now in
    let old = get_or_default row (post.seat.number - 1) c.index-self-index-in-Straddle.result None (omega (arith, c.args.self.now.ten_straddles, post.seat.first, post.seat.last)) in
    record {
      antes = λ seat from to. kept.antes seat from to ∙ sym (other_kind is_ante seat posts (plain_post post) (ap is_ante c.in-Straddle.is));
      straddles = λ seat from to.
          ap (λ value. chips_in (set row (post.seat.number - 1) value) seat) (c.first_of-in-Straddle.ensures ∙ ap (λ x. option_or x (Some post.amount)) old)
          ∙ noted is_straddle row posts (plain_post post) post.amount (ap is_straddle c.in-Straddle.is) refl c.args.self.now.ten_straddles post.seat.first post.seat.last kept.straddles seat from to;
      small_blind = kept.small_blind ∙ other_blind is_small_blind posts (plain_post post) (ap is_small_blind c.in-Straddle.is);
      big_blind = kept.big_blind ∙ other_blind is_big_blind posts (plain_post post) (ap is_big_blind c.in-Straddle.is);
    }

pub returns-in-SmallBlind : goal.returns-in-SmallBlind
returns-in-SmallBlind c posts kept =
    let post = c.args.post.now in
    record {
      antes = λ seat from to. kept.antes seat from to ∙ sym (other_kind is_ante seat posts (plain_post post) (ap is_ante c.in-SmallBlind.is));
      straddles = λ seat from to. kept.straddles seat from to ∙ sym (other_kind is_straddle seat posts (plain_post post) (ap is_straddle c.in-SmallBlind.is));
      small_blind = this_blind is_small_blind posts (plain_post post) (ap is_small_blind c.in-SmallBlind.is);
      big_blind = kept.big_blind ∙ other_blind is_big_blind posts (plain_post post) (ap is_big_blind c.in-SmallBlind.is);
    }

pub returns-in-BigBlind : goal.returns-in-BigBlind
returns-in-BigBlind c posts kept =
    let post = c.args.post.now in
    record {
      antes = λ seat from to. kept.antes seat from to ∙ sym (other_kind is_ante seat posts (plain_post post) (ap is_ante c.in-BigBlind.is));
      straddles = λ seat from to. kept.straddles seat from to ∙ sym (other_kind is_straddle seat posts (plain_post post) (ap is_straddle c.in-BigBlind.is));
      small_blind = kept.small_blind ∙ other_blind is_small_blind posts (plain_post post) (ap is_small_blind c.in-BigBlind.is);
      big_blind = this_blind is_big_blind posts (plain_post post) (ap is_big_blind c.in-BigBlind.is);
    }
