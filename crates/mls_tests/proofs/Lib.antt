mod Lists
mod Pushed
