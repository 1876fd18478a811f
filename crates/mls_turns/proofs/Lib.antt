mod Feeds
